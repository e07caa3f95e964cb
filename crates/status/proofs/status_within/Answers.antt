use mathlib.Core.Path.{refl}
use Rattle.manual.specs.State.{stored_at}
use Rattle.status.proofs.status_within.Goals as goal

pub returns : goal.returns
unfolding stored_at
returns c = refl
