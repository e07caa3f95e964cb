-- `control` meets its contract.
use mathlib.Core.Path.{refl}
use Rattle.transport.specs.Frames.{padded}
use Rattle.receiving.proofs.control.Goals as goal

pub returns : goal.returns
unfolding padded
returns c = refl
