-- `put_name` meets its contract.
use native.Mathlib.Omega.{arith}
use Rattle.page_text.proofs.PageLaws.{adds_most}
use Rattle.page_parts.specs.Signals.{shown_name}
use Rattle.page_parts.proofs.put_name.Goals as goal

pub returns-then-is_empty : goal.returns-then-is_empty
unfolding shown_name
returns-then-is_empty c =
    rw (← c.is_empty.ensures, c.if-is_empty.true) (adds_most (omega arith) c.put_event.ensures)

pub returns-else-is_empty : goal.returns-else-is_empty
unfolding shown_name
returns-else-is_empty c = rw (← c.is_empty.ensures, c.if-is_empty.false) c.put_bdi.ensures
