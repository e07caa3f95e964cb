-- `controlled` meets its contract.
use Rattle.std.proofs.Common.{rules}
use Rattle.transport.specs.Sending.{controlled}
use Rattle.sending.proofs.controlled.Goals as goal

pub returns-in-48 : goal.returns-in-48
unfolding controlled
returns-in-48 c = search rules

pub returns-in-49 : goal.returns-in-49
unfolding controlled
returns-in-49 c = search rules

pub returns-in_default : goal.returns-in_default
unfolding controlled
returns-in_default c = search rules
