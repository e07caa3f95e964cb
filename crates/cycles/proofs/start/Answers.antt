-- `start` meets its contract.
use mathlib.Core.Path.{refl}
use Rattle.std.proofs.lemmas.Result.{err_from_is_err_and}
use Rattle.cycles.proofs.CyclesLaws.{start_read, start_refused, may_start, start_done}
use Rattle.cycles.proofs.start.Goals as goal

pub accept_start-requires : goal.accept_start-requires
accept_start-requires c = may_start _ _ _ (start_read _ _ _ refl c.runs-wrong.ensures c.in_ok-judge.ensures)

pub returns : goal.returns
returns c =
    let a = c.args in
    start_done _ _ _ (start_read _ _ _ refl c.runs-wrong.ensures c.in_ok-judge.ensures)
    (c.accept_start.ensures a.debounce.now a.memory.now)

pub returns-in_err-judge : goal.returns-in_err-judge
returns-in_err-judge c =
    let p = err_from_is_err_and c.from_residual.result c.from_residual.ensures.1 in
    rw (p.1, p.2)
    (start_refused _ _ _ _ (start_read _ _ _ refl c.runs-wrong.ensures c.in_err-judge.ensures))
