-- `flow` meets its contract.
use Rattle.can_panel.specs.CanPanel.{flow_crosses}
use Rattle.can_panel.proofs.flow.Goals as goal

pub returns : goal.returns
unfolding flow_crosses
returns c = rw (← c.from-after.ensures, ← c.from.ensures, ← c.flow-answer.ensures) c.flowed_bytes.ensures
