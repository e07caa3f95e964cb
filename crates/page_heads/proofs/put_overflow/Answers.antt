-- `put_overflow` meets its contract.
use native.Mathlib.Omega.{arith}
use Rattle.page_text.specs.Text.{text}
use Rattle.page_text.proofs.PageLaws.{adds_most}
use Rattle.page_heads.specs.Heads.{overflowed}
use Rattle.page_heads.proofs.put_overflow.Goals as goal

pub returns-then-overflow : goal.returns-then-overflow
unfolding overflowed text
returns-then-overflow c =
    rw c.if-overflow.true
    (adds_most (omega arith) c.put.ensures)

pub returns-else-overflow : goal.returns-else-overflow
unfolding overflowed text
returns-else-overflow c =
    rw c.if-overflow.false
    (adds_most (omega arith) c.put-else-overflow.ensures)
