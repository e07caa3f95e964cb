use mir.Facts.{to_z-of_z}
use Rattle.manual.specs.Words.{between}
use Rattle.leaf_cases.proofs.between.Goals as goal

pub returns-then-lo-number : goal.returns-then-lo-number
unfolding between
returns-then-lo-number c = let z = to_z-of_z c.ranges.number in
    let l = to_z-of_z c.ranges.lo in
    simp (z, l, to_z-of_z c.ranges.hi, simp (z, l) at c.if-lo-number.true)

pub returns-else-lo-number : goal.returns-else-lo-number
unfolding between
returns-else-lo-number c = let z = to_z-of_z c.ranges.number in
    let l = to_z-of_z c.ranges.lo in
    simp (z, l, simp (z, l) at c.if-lo-number.false)
