-- `goes_on` meets its contract.
use Rattle.std.proofs.Common.{rules}
use Rattle.transport.specs.Sending.{carries_on}
use Rattle.sending.proofs.goes_on.Goals as goal

pub returns-in-0 : goal.returns-in-0
unfolding carries_on
returns-in-0 c = search rules

pub returns-in-1 : goal.returns-in-1
unfolding carries_on
returns-in-1 c = search rules

pub returns-in_default : goal.returns-in_default
unfolding carries_on
returns-in_default c = search rules
