-- `takes_single` meets its contract.
use mathlib.Core.Path.{refl}
use Rattle.transport.specs.Receiving.{takes_single}
use Rattle.receiving.proofs.takes_single.Goals as goal

pub returns : goal.returns
unfolding takes_single
returns c = refl
