-- `put_unused` meets its contract.
use native.Mathlib.Omega.{arith}
use Rattle.page_text.specs.Text.{text}
use Rattle.page_text.proofs.PageLaws.{adds_most}
use Rattle.page_heads.proofs.put_unused.Goals as goal

pub returns-in-Unreadable : goal.returns-in-Unreadable
unfolding text
returns-in-Unreadable c = rw c.in-Unreadable.is (adds_most (omega arith) c.put.ensures)

pub returns-in-TooLong : goal.returns-in-TooLong
unfolding text
returns-in-TooLong c = rw c.in-TooLong.is (adds_most (omega arith) c.put-in-TooLong.ensures)
