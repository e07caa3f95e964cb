-- `put_lowered` meets its contract.
use native.Mathlib.Omega.{arith}
use borrow.Author.Tests.{lt-ltb, le-ltb}
use Rattle.page_text.proofs.PageLaws.{adds_most}
use Rattle.page_parts.specs.Signals.{lowered}
use Rattle.page_parts.proofs.put_lowered.Goals as goal

pub returns-then-raised-lt128 : goal.returns-then-raised-lt128
unfolding lowered
returns-then-raised-lt128 c = rw (lt-ltb _ _ c.if-raised-lt128.true) c.put_minus.ensures

pub returns-else-raised-lt128 : goal.returns-else-raised-lt128
unfolding lowered
returns-else-raised-lt128 c =
    rw (le-ltb _ _ c.if-raised-lt128.false)
    (adds_most (omega arith) c.put_decimal.ensures)
