-- `put_paint` meets its contract.
use native.Mathlib.Omega.{arith}
use Rattle.page_text.specs.Text.{text}
use Rattle.page_text.proofs.PageLaws.{adds_most}
use Rattle.page_parts.proofs.put_paint.Goals as goal

pub returns-in-Grey : goal.returns-in-Grey
unfolding text
returns-in-Grey c =
    rw c.in-Grey.is
    (adds_most (omega arith) c.put.ensures)

pub returns-in-Red : goal.returns-in-Red
unfolding text
returns-in-Red c =
    rw c.in-Red.is
    (adds_most (omega arith) c.put-in-Red.ensures)

pub returns-in-Live : goal.returns-in-Live
unfolding text
returns-in-Live c =
    rw c.in-Live.is
    (adds_most (omega arith) c.put-in-Live.ensures)
