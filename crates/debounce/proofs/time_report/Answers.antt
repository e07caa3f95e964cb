use native.Mathlib.Omega.{arith}
use lib.IntN.{pos, ◌+ℤ◌, ◌-ℤ◌}
use mir.Facts.{to_z-of_z}
use borrow.Author.Tests.{ne_eqb}
use Rattle.manual.specs.Configuration.{column}
use Rattle.manual.specs.Debouncing.{time_report}
use Rattle.debounce.specs.Rows.{alone}
use Rattle.debounce.proofs.SmallNumbersLaws.{abs_add, abs_sub, back}
use Rattle.debounce.proofs.RowsLaws.{low_back, high_back}
use Rattle.debounce.proofs.time_report.Goals as goal

pub returns-in-1 : goal.returns-in-1
unfolding time_report alone column
returns-in-1 c =
    simp (
      c.in-1.is,
      high_back c.requires,
      back (c.args.row.high +ℤ pos 1) (omega (arith, abs_add c.args.row.high (pos 1))),
    )

pub returns-in-0 : goal.returns-in-0
unfolding time_report alone column
returns-in-0 c =
    simp (
      c.in-0.is,
      low_back c.requires,
      back (c.args.row.low -ℤ pos 1) (omega (arith, abs_sub c.args.row.low (pos 1))),
    )

pub returns-then-d-le0 : goal.returns-then-d-le0
unfolding time_report
returns-then-d-le0 c =
    let d = to_z-of_z c.ranges.d in
    simp (c.in-3.is, simp d at c.if-d-le0.true)

pub returns-else-d-le0 : goal.returns-else-d-le0
unfolding time_report
returns-else-d-le0 c =
    let d = to_z-of_z c.ranges.d in
    simp (c.in-3.is, simp d at c.if-d-le0.false, d)

pub returns-then-d-ge0 : goal.returns-then-d-ge0
unfolding time_report
returns-then-d-ge0 c =
    let d = to_z-of_z c.ranges.d in
    let m = c.in_default.in_default-own.rest in
    simp (ne_eqb _ _ m.0.0.1, ne_eqb _ _ m.0.1, ne_eqb _ _ m.1, simp d at c.if-d-ge0.true)

pub returns-else-d-ge0 : goal.returns-else-d-ge0
unfolding time_report
returns-else-d-ge0 c =
    let d = to_z-of_z c.ranges.d in
    let m = c.in_default.in_default-own.rest in
    simp (ne_eqb _ _ m.0.0.1, ne_eqb _ _ m.0.1, ne_eqb _ _ m.1, simp d at c.if-d-ge0.false, d)
