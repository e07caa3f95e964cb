-- `awaits` meets its contract.
use Rattle.std.proofs.Common.{rules}
use Rattle.transport.specs.Receiving.{awaits}
use Rattle.receiving.proofs.awaits.Goals as goal

pub returns-in-0 : goal.returns-in-0
unfolding awaits
returns-in-0 c = search rules

pub returns-in-1 : goal.returns-in-1
unfolding awaits
returns-in-1 c = search rules

pub returns-in_default : goal.returns-in_default
unfolding awaits
returns-in_default c = search rules
