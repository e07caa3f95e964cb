use Rattle.std.proofs.lemmas.Result.{err_from_is_err_and}
use Rattle.manual.specs.Lent.{as_found}
use Rattle.diagnostics.proofs.RequestLaws.{may_be_limited, then_limit, not_so_far}
use Rattle.diagnostics.proofs.judge.Goals as goal

pub judge_limit-requires : goal.judge_limit-requires
judge_limit-requires c =
    let a = c.args in
    may_be_limited a.cfg.now a.request.now a.room.now a.counts.now (as_found a.state.now) c.fit-fits.ensures
    c.judge_begin.ensures c.in_ok-judge_begin.was

pub returns : goal.returns
returns c =
    let a = c.args in
    then_limit a.cfg.now a.request.now a.room.now a.counts.now (as_found a.state.now) c.fit-fits.ensures
    c.judge_begin.ensures c.in_ok-judge_begin.was c.judge_limit.ensures

pub returns-in_err-judge_begin : goal.returns-in_err-judge_begin
returns-in_err-judge_begin c =
    let a = c.args in
    let p = err_from_is_err_and c.from_residual.result c.from_residual.ensures.1 in
    rw (p.1, p.2)
    (not_so_far a.cfg.now a.request.now a.room.now a.counts.now (as_found a.state.now) c.fit-fits.ensures
    c.judge_begin.ensures _ c.in_err-judge_begin.was)
