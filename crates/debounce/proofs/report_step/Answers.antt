use mir.Facts.{to_z-of_z}
use borrow.Author.Tests.{ne_eqb}
use Rattle.manual.specs.Configuration.{column}
use Rattle.manual.specs.Debouncing.{reported, internal_report}
use Rattle.debounce.specs.Rows.{alone}
use Rattle.debounce.proofs.SmallNumbersLaws.{held}
use Rattle.debounce.proofs.report_step.Goals as goal

pub returns-in-0 : goal.returns-in-0
unfolding reported internal_report alone column
returns-in-0 c = simp (c.in-0.is, to_z-of_z c.ranges.d, c.internal_report.ensures)

pub returns-in-1 : goal.returns-in-1
unfolding reported alone column
returns-in-1 c =
    simp (
      c.in-1.is,
      c.leaves_at.ensures,
      held c.counter_report.ensures c.counter_report.type_inv,
      to_z-of_z c.ranges.d,
    )

pub returns-in_default : goal.returns-in_default
unfolding reported alone column
returns-in_default c =
    let m = c.in_default.in_default-own.rest in
    simp (
      ne_eqb _ _ m.0.1,
      ne_eqb _ _ m.1,
      c.leaves_at-in_default.ensures,
      held c.time_report.ensures c.time_report.type_inv,
      to_z-of_z c.ranges.d,
    )
