-- `Receiver::from` meets its contract.
use Rattle.std.proofs.Common.{rules}
use Rattle.can_panel.specs.CanPanel.{receiver_of}
use Rattle.can_panel.proofs.ReceiverFromPanelReceiver.from.Goals as goal

pub returns-in-1 : goal.returns-in-1
unfolding receiver_of
returns-in-1 c = search rules

pub returns-in_default : goal.returns-in_default
unfolding receiver_of
returns-in_default c = search rules
