-- `has` meets its contract.
use mathlib.Core.Path.{refl}
use Rattle.transport.specs.Frames.{has}
use Rattle.transport.proofs.has.Goals as goal

pub returns : goal.returns
unfolding has
returns c = refl
