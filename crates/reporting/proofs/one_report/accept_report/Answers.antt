-- `accept_report` meets its contract.
use Rattle.reporting.proofs.ReportLaws.{report_ready, report_rise}
use Rattle.reporting.proofs.one_report.accept_report.Goals as goal

pub reports-after-requires : goal.reports-after-requires
reports-after-requires c = report_ready _ _ _ _ c.requires

pub returns-clause-rise : goal.returns-clause-rise
returns-clause-rise c = report_rise _ _ _ _ _ c.reports-after.ensures.promise c.rise_of.ensures
