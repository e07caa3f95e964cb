-- bottom
use native.Mathlib.Omega.{arith}
use lib.IntN.{pos, ◌-ℤ◌}
use borrow.Author.Tests.{eq-eqb, ne_eqb}
use Rattle.manual.specs.Configuration.{column}
use Rattle.manual.specs.Debouncing.{bottom}
use Rattle.debounce.specs.Rows.{alone}
use Rattle.debounce.proofs.SmallNumbersLaws.{abs_sub, back}
use Rattle.debounce.proofs.RowsLaws.{low_back}
use Rattle.debounce.proofs.bottom.Goals as goal

pub returns-then-row-eq-TIME : goal.returns-then-row-eq-TIME
unfolding bottom alone column
returns-then-row-eq-TIME c =
    let row = c.args.row in
    simp (
      eq-eqb _ _ c.if-row-eq-TIME.true,
      low_back c.requires,
      back (row.low -ℤ pos 1) (omega (arith, abs_sub row.low (pos 1))),
    )

pub returns : goal.returns
unfolding bottom alone column
returns c = simp (ne_eqb _ _ c.if-row-eq-TIME.false, low_back c.requires)
