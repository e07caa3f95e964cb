use mir.Facts.{to_z-of_z}
use Rattle.manual.specs.Debouncing.{leaves_at}
use Rattle.debounce.proofs.leaves_at.Goals as goal

pub returns : goal.returns
unfolding leaves_at
returns c = simp (to_z-of_z c.ranges.d, c.verdict_at.ensures)
