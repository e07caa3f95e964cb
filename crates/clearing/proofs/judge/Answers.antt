use Rattle.std.proofs.lemmas.Result.{err_from_is_err_and}
use Rattle.manual.specs.Lent.{as_found}
use Rattle.clearing.proofs.ClearRiseLaws.{may_be_limited, then_limit, not_so_far}
use Rattle.clearing.proofs.judge.Goals as goal

pub carries_past-requires : goal.carries_past-requires
carries_past-requires c =
    let a = c.args in
    may_be_limited a.cfg.now (as_found a.state.now) a.code a.counts.now c.fit-fits.ensures c.judge_known.ensures
    c.in_ok-judge_known.was

pub returns : goal.returns
returns c =
    let a = c.args in
    then_limit a.cfg.now (as_found a.state.now) a.code a.counts.now c.fit-fits.ensures c.judge_known.ensures
    c.in_ok-judge_known.was c.carries_past.ensures c.limit_test.ensures

pub returns-in_err-judge_known : goal.returns-in_err-judge_known
returns-in_err-judge_known c =
    let a = c.args in
    let p = err_from_is_err_and c.from_residual.result c.from_residual.ensures.1 in
    rw (p.1, p.2) (not_so_far a.cfg.now (as_found a.state.now) a.code a.counts.now c.fit-fits.ensures c.judge_known.ensures _
    c.in_err-judge_known.was)
