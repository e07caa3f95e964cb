-- `Sender::from` meets its contract.
use Rattle.std.proofs.Common.{rules}
use Rattle.can_panel.specs.CanPanel.{sender_of}
use Rattle.can_panel.proofs.SenderFromPanelSender.from.Goals as goal

pub returns-in-1 : goal.returns-in-1
unfolding sender_of
returns-in-1 c = search rules

pub returns-in-2 : goal.returns-in-2
unfolding sender_of
returns-in-2 c = search rules

pub returns-in_default : goal.returns-in_default
unfolding sender_of
returns-in_default c = search rules
