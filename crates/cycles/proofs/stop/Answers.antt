-- `stop` meets its contract.
use Rattle.std.proofs.lemmas.Result.{err_from_is_err_and}
use Rattle.cycles.proofs.StopRiseLaws.{stop_read, stop_refused, accepted, may_raise, stop_done}
use Rattle.cycles.proofs.stop.Goals as goal

pub accept_stop-rise-requires : goal.accept_stop-rise-requires
accept_stop-rise-requires c =
    accepted _ _ _ _ (stop_read _ _ _ _ c.as_found.ensures c.in_ok-judge_stop.ensures)

pub raise-requires : goal.raise-requires
raise-requires c =
    may_raise _ _ _ _ (stop_read _ _ _ _ c.as_found.ensures c.in_ok-judge_stop.ensures)
    c.accept_stop-rise.ensures.rise

pub returns-clause-promise : goal.returns-clause-promise
returns-clause-promise c =
    stop_done _ _ _ _ (stop_read _ _ _ _ c.as_found.ensures c.in_ok-judge_stop.ensures)
    c.accept_stop-rise.ensures.rise c.accept_stop-rise.ensures.promise c.raise.ensures

pub returns-in_err-judge_stop-clause-promise : goal.returns-in_err-judge_stop-clause-promise
returns-in_err-judge_stop-clause-promise c =
    let p = err_from_is_err_and c.from_residual.result c.from_residual.ensures.1 in
    rw (p.1, p.2)
    (stop_refused _ _ _ _ _ (stop_read _ _ _ _ c.as_found.ensures c.in_err-judge_stop.ensures))
