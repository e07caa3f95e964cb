-- `read_status` meets its contract.
use mathlib.Core.Path.{sym}
use Rattle.std.proofs.lemmas.Result.{err_from_is_err_and}
use Rattle.queries.proofs.ReadingLaws.{status_is, status_refused}
use Rattle.queries.proofs.read_status.Goals as goal

pub returns-in_err-judge : goal.returns-in_err-judge
returns-in_err-judge c =
    let p = err_from_is_err_and c.from_residual.result c.from_residual.ensures.1 in
    rw (p.1, p.2) (status_refused _ _ _ _ c.in_err-judge.ensures)

pub returns : goal.returns
returns c = status_is _ _ _ (sym c.in_ok-judge.ensures) c.status_of.ensures
