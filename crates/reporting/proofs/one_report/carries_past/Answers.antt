-- `carries_past` meets its contract: far from the limit no report carries a count past it.
use native.Mathlib.Omega.{arith}
use Rattle.manual.proofs.CountsLaws.{report_most}
use Rattle.reporting.proofs.CountedLaws.{all_far, past_by}
use Rattle.reporting.proofs.one_report.carries_past.Goals as goal

pub returns-then-not-some_near : goal.returns-then-not-some_near
returns-then-not-some_near c =
    all_far _ _ 1 (omega arith) (report_most _ _ _ _ _) c.some_near.ensures
    c.if-not-some_near.true

pub returns : goal.returns
returns c = past_by _ _ _ c.rehearse-rise.ensures c.some_past.ensures
