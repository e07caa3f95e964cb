use mir.Facts.{to_z-of_z}
use borrow.Author.Tests.{ne_eqb}
use Rattle.manual.specs.Configuration.{column}
use Rattle.manual.specs.Debouncing.{counter_report}
use Rattle.debounce.specs.Rows.{alone}
use Rattle.debounce.proofs.SmallNumbersLaws.{held}
use Rattle.debounce.proofs.RowsLaws.{low_back, high_back}
use Rattle.debounce.proofs.counter_report.Goals as goal

pub returns-in-1 : goal.returns-in-1
unfolding counter_report alone column
returns-in-1 c = simp (c.in-1.is, high_back c.requires.of_row)

pub returns-in-0 : goal.returns-in-0
unfolding counter_report alone column
returns-in-0 c = simp (c.in-0.is, low_back c.requires.of_row)

pub returns-in-3 : goal.returns-in-3
unfolding counter_report
returns-in-3 c =
    simp (
      c.in-3.is,
      held c.counter_up.ensures c.counter_up.type_inv,
      to_z-of_z c.ranges.d,
    )

pub returns-in_default : goal.returns-in_default
unfolding counter_report
returns-in_default c =
    let m = c.in_default.in_default-own.rest in
    simp (
      ne_eqb _ _ m.0.0.1,
      ne_eqb _ _ m.0.1,
      ne_eqb _ _ m.1,
      held c.counter_down.ensures c.counter_down.type_inv,
      to_z-of_z c.ranges.d,
    )
