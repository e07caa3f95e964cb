-- `reports` meets its contract: the row and D of a well-formed state are small.
use Rattle.debounce.specs.Rows.{answered}
use Rattle.debounce.proofs.SmallNumbersLaws.{held}
use Rattle.manual.specs.Lent.{as_lent}
use Rattle.one_event.proofs.LentLaws.{may_report, reports_is}
use Rattle.one_event.proofs.reports.Goals as goal

pub report_step-d-requires : goal.report_step-d-requires
report_step-d-requires c =
    let a = c.args in
    let row = c.row_of-row in
    let number = c.read_number in
    may_report a.cfg.now a.event.0 (as_lent a.state.now)
    c.requires.0 row.result row.ensures (held number.ensures number.type_inv)

pub returns-clause-promise : goal.returns-clause-promise
returns-clause-promise c =
    let a = c.args in
    let row = c.row_of-row in
    let number = c.read_number in
    let step = c.report_step-d in
    reports_is a.cfg.now a.event.0 (as_lent a.state.now) a.frame.now row.result
    row.ensures (held number.ensures number.type_inv) (answered step.result)
    c.applies-did.ensures.promise a.code step.ensures
