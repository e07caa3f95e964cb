-- `start` meets its contract.
use Rattle.can_panel.specs.CanPanel.{start_crosses}
use Rattle.can_panel.proofs.start.Goals as goal

pub returns : goal.returns
unfolding start_crosses
returns c = rw (← c.start.ensures) c.started_bytes.ensures
