-- `put_stored` meets its contract.
use native.Mathlib.Omega.{arith}
use Rattle.page_text.specs.Text.{text}
use Rattle.page_text.proofs.PageLaws.{adds_most}
use Rattle.page_parts.specs.Signals.{stored}
use Rattle.page_parts.proofs.put_stored.Goals as goal

pub returns-in-0 : goal.returns-in-0
unfolding stored text
returns-in-0 c =
    rw c.in-0.is
    (adds_most (omega arith) c.put.ensures)

pub returns-in-1 : goal.returns-in-1
unfolding stored text
returns-in-1 c =
    rw c.in-1.is
    (adds_most (omega arith) c.put-in-1.ensures)

pub returns-in_default : goal.returns-in_default
unfolding stored
returns-in_default c = grind (arith, c.put_times.ensures)
