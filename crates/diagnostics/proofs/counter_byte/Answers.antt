use mir.Facts.{to_z-of_z}
use Rattle.diagnostics.proofs.NearLaws.{near_fits, near_byte}
use Rattle.diagnostics.proofs.counter_byte.Goals as goal

pub overflow_cast-result : goal.overflow_cast-result
overflow_cast-result c = rw (to_z-of_z c.ranges.counter) (near_fits c.args.counter c.requires)

pub returns : goal.returns
returns c = rw (to_z-of_z c.ranges.counter) (near_byte c.args.counter c.requires)
