-- `all_report_tests` meets its contract: 12 last.
use mathlib.Core.Path.{refl}
use Rattle.std.proofs.lemmas.Result.{err_from_is_err_and}
use Rattle.judgement.proofs.JudgedLaws.{passed_by}
use Rattle.rehearsal.proofs.LastLaws.{last_judged, stopped_before}
use Rattle.reporting.proofs.CountedLaws.{limit_judged}
use Rattle.reporting.proofs.ReportLaws.{may_report}
use Rattle.reporting.proofs.all_report_tests.Goals as goal

pub carries_past-requires : goal.carries_past-requires
carries_past-requires c =
    let given = c.args.given.now in
    let m = c.requires in (
      may_report _ _ _ _ given.code given.present m
          (passed_by _ c.report_tests.ensures c.in_ok-report_tests.was),
      m.five,
    )

pub returns : goal.returns
returns c =
    last_judged _ _ refl c.report_tests.ensures
    c.in_ok-report_tests.was
    (limit_judged _ _ c.limit_test.ensures c.carries_past.ensures)

pub returns-in_err-report_tests : goal.returns-in_err-report_tests
returns-in_err-report_tests c =
    let p = err_from_is_err_and c.from_residual.result c.from_residual.ensures.1 in
    rw (p.1, p.2)
    (stopped_before _ _ refl c.report_tests.ensures _ c.in_err-report_tests.was)
