-- `next` meets its contract.
use Rattle.can_panel.specs.CanPanel.{next_crosses}
use Rattle.can_panel.proofs.next.Goals as goal

pub returns : goal.returns
unfolding next_crosses
returns c = rw (← c.from-after.ensures, ← c.next-due.ensures) c.next_bytes.ensures
