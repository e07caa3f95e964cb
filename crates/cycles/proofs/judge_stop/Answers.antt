-- `judge_stop` meets its contract: 12 is judged last.
use mathlib.Core.Path.{ap}
use mathlib.Core.Bool.{not}
use Rattle.std.proofs.lemmas.Result.{err_from_is_err_and}
use Rattle.manual.specs.Lent.{as_found}
use Rattle.cycles.proofs.StopRiseLaws.{may_be_limited, then_limit, not_so_far}
use Rattle.cycles.proofs.judge_stop.Goals as goal

pub carries_past-requires : goal.carries_past-requires
carries_past-requires c =
    let a = c.args in
    may_be_limited a.cfg.now (as_found a.state.now) a.cycle a.counts.now c.fit-fits.ensures
    (ap not c.runs-wrong.ensures) c.in_ok-judge.ensures

pub returns : goal.returns
returns c =
    let a = c.args in
    then_limit a.cfg.now (as_found a.state.now) a.cycle a.counts.now c.fit-fits.ensures
    (ap not c.runs-wrong.ensures) c.in_ok-judge.ensures c.carries_past.ensures c.limit_test.ensures

pub returns-in_err-judge : goal.returns-in_err-judge
returns-in_err-judge c =
    let a = c.args in
    let p = err_from_is_err_and c.from_residual.result c.from_residual.ensures.1 in
    rw (p.1, p.2)
    (not_so_far a.cfg.now (as_found a.state.now) a.cycle a.counts.now c.fit-fits.ensures
    (ap not c.runs-wrong.ensures) _ c.in_err-judge.ensures)
