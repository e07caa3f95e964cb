-- top
use native.Mathlib.Omega.{arith}
use lib.IntN.{pos, ◌+ℤ◌}
use borrow.Author.Tests.{eq-eqb, ne_eqb}
use Rattle.manual.specs.Configuration.{column}
use Rattle.manual.specs.Debouncing.{top}
use Rattle.debounce.specs.Rows.{alone}
use Rattle.debounce.proofs.SmallNumbersLaws.{abs_add, back}
use Rattle.debounce.proofs.RowsLaws.{high_back}
use Rattle.debounce.proofs.top.Goals as goal

pub returns-then-row-eq-TIME : goal.returns-then-row-eq-TIME
unfolding top alone column
returns-then-row-eq-TIME c =
    let row = c.args.row in
    simp (
      eq-eqb _ _ c.if-row-eq-TIME.true,
      high_back c.requires,
      back (row.high +ℤ pos 1) (omega (arith, abs_add row.high (pos 1))),
    )

pub returns : goal.returns
unfolding top alone column
returns c = simp (ne_eqb _ _ c.if-row-eq-TIME.false, high_back c.requires)
