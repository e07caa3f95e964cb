-- `messages` meets its contract.
use native.Mathlib.Omega.{arith}
use Rattle.page_text.proofs.PageLaws.{adds_most, ◌and_then◌}
use Rattle.page_body.specs.Body.{messages}
use Rattle.page_body.proofs.messages.Goals as goal

pub returns : goal.returns
unfolding messages
returns c =
    rw (← c.first_bad.ensures)
    (adds_most (omega arith) (c.unreadable_if.ensures and_then c.names_unused.ensures and_then c.bad_name.ensures))
