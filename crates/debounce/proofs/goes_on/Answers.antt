-- goes_on
use native.Mathlib.Omega.{arith}
use lib.IntN.{pos, ◌+ℤ◌}
use mir.Facts.{to_z-of_z}
use Rattle.debounce.proofs.SmallNumbersLaws.{abs_add, back, held, smaller_is}
use Rattle.debounce.proofs.goes_on.Goals as goal

pub returns : goal.returns
returns c =
    let a = c.args in
    simp (
      held c.min.ensures.value c.min.type_inv,
      to_z-of_z c.ranges.waited,
      to_z-of_z c.ranges.end,
      back (pos a.ms) (omega arith),
      back (a.waited +ℤ pos a.ms) (omega (arith, abs_add a.waited (pos a.ms))),
    )
    (smaller_is (a.waited +ℤ pos a.ms) a.end)
