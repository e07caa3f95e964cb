-- `judge_tick` meets its contract: 2 and 3 first.
use Rattle.std.proofs.lemmas.Result.{err_from_is_err_and}
use Rattle.manual.specs.Lent.{as_found}
use Rattle.manual.specs.Calls.{tick_rules}
use Rattle.reporting.proofs.CountedLaws.{has_begun, judged_counted, stopped_counted}
use Rattle.reporting.proofs.judge_tick.Goals as goal

pub all_tick_tests-requires : goal.all_tick_tests-requires
all_tick_tests-requires c =
    has_begun _ _ c.args.counts.now c.fit.ensures c.begin.ensures
    c.in_ok-begin.was

pub returns : goal.returns
unfolding tick_rules
returns c =
    let a = c.args in
    judged_counted a.cfg.now (as_found a.state.now) a.counts.now c.fit.ensures
    c.begin.ensures _ c.in_ok-begin.was c.all_tick_tests.ensures

pub returns-in_err-begin : goal.returns-in_err-begin
unfolding tick_rules
returns-in_err-begin c =
    let a = c.args in
    let p = err_from_is_err_and c.from_residual.result c.from_residual.ensures.1 in
    rw (p.1, p.2)
    (stopped_counted a.cfg.now (as_found a.state.now) a.counts.now c.fit.ensures
    c.begin.ensures _ _ c.in_err-begin.was)
