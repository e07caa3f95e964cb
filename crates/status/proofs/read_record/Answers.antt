-- `read_record` meets its contract: the four bytes are there, and are those of `stored_at`.
use mathlib.Core.Path.{refl}
use Rattle.manual.specs.State.{stored_at}
use Rattle.status.proofs.read_record.Goals as goal

pub returns : goal.returns
unfolding stored_at
returns c = refl
