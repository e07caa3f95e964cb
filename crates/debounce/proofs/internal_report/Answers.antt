use mir.Facts.{to_z-of_z}
use borrow.Author.Tests.{ne_eqb}
use Rattle.manual.specs.Debouncing.{internal_report}
use Rattle.debounce.proofs.internal_report.Goals as goal

pub returns-in-1 : goal.returns-in-1
unfolding internal_report
returns-in-1 c = simp (c.in-1.is, to_z-of_z c.ranges.d)

pub returns-in-0 : goal.returns-in-0
unfolding internal_report
returns-in-0 c = simp (c.in-0.is, to_z-of_z c.ranges.d)

pub returns-in_default : goal.returns-in_default
unfolding internal_report
returns-in_default c = simp (ne_eqb _ _ c.in_default.in_default-own.rest.0.1, ne_eqb _ _ c.in_default.in_default-own.rest.1, to_z-of_z c.ranges.d)
