use mathlib.Core.Path.{refl}
use mir.Facts.{to_z-of_z}
use Rattle.diagnostics.proofs.NearLaws.{near_is}
use Rattle.diagnostics.proofs.tells_near.Goals as goal

pub returns : goal.returns
returns c = rw (to_z-of_z c.ranges.counter) (near_is refl refl)
