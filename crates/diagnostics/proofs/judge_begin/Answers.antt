use Rattle.std.proofs.lemmas.Result.{err_from_is_err_and}
use Rattle.manual.specs.Lent.{as_found}
use Rattle.judgement.proofs.JudgedLaws.{judged_by, stopped_by}
use Rattle.diagnostics.proofs.judge_begin.Goals as goal

pub returns : goal.returns
returns c =
    let a = c.args in
    judged_by a.cfg.now (as_found a.state.now) a.fits c.begin.ensures _ c.in_ok-begin.was c.judge_sizes.ensures

pub returns-in_err-begin : goal.returns-in_err-begin
returns-in_err-begin c =
    let a = c.args in
    let p = err_from_is_err_and c.from_residual.result c.from_residual.ensures.1 in
    rw (p.1, p.2) (stopped_by a.cfg.now (as_found a.state.now) a.fits c.begin.ensures _ _ c.in_err-begin.was)
