-- `report` meets its contract: what passed the judge is accepted.
use mathlib.Core.Path.{refl}
use Rattle.std.proofs.lemmas.Result.{err_from_is_err_and}
use Rattle.manual.specs.Calls.{report}
use Rattle.judgement.proofs.JudgedLaws.{passed_by, accepted_by, refused_by}
use Rattle.reporting.proofs.CountedLaws.{may_raise, raised_by}
use Rattle.reporting.proofs.ReportLaws.{report_passed_lem, report_counts, report_left, report_read}
use Rattle.reporting.proofs.report.Goals as goal

pub accept_report-accepted-requires : goal.accept_report-accepted-requires
accept_report-accepted-requires c =
    let judged = report_read _ _ _ _ _ _ c.as_found.ensures c.judge_report.ensures in
    report_passed_lem _ _ _ _ _ _ _
    (passed_by _ judged c.in_ok-judge_report.was)

pub raise-requires : goal.raise-requires
raise-requires c =
    let judged = report_read _ _ _ _ _ _ c.as_found.ensures c.judge_report.ensures in
    may_raise _ _ _ c.accept_report-accepted.ensures.rise
    (report_counts _ _ _ _ _ _ _ (passed_by _ judged c.in_ok-judge_report.was))

pub returns-clause-promise : goal.returns-clause-promise
unfolding report
returns-clause-promise c =
    let accepted = c.accept_report-accepted in
    let judged = report_read _ _ _ _ _ _ c.as_found.ensures c.judge_report.ensures in
    accepted_by _ judged _ _ _ c.in_ok-judge_report.was
    (report_left _ _ _ _ _ _ accepted.ensures.promise
    (raised_by _ _ _ accepted.ensures.rise c.raise.ensures))

pub returns-in_err-judge_report-clause-promise : goal.returns-in_err-judge_report-clause-promise
unfolding report
returns-in_err-judge_report-clause-promise c =
    let judged = report_read _ _ _ _ _ _ c.as_found.ensures c.judge_report.ensures in
    let p = err_from_is_err_and c.from_residual.result c.from_residual.ensures.1 in
    rw (p.1, p.2)
    (refused_by _ judged _ _ _ _ c.in_err-judge_report.was refl)
