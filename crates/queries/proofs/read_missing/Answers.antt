-- `read_missing` meets its contract.
use mathlib.Core.Path.{sym}
use Rattle.std.proofs.lemmas.Result.{err_from_is_err_and}
use Rattle.queries.proofs.ReadingLaws.{event_most, missing_is, missing_refused}
use Rattle.queries.proofs.read_missing.Goals as goal

pub returns-in_err-judge : goal.returns-in_err-judge
returns-in_err-judge c =
    let p = err_from_is_err_and c.from_residual.result c.from_residual.ensures.1 in
    rw (p.1, p.2) (missing_refused _ _ _ _ c.in_err-judge.ensures c.args.present)

pub still_missing-requires : goal.still_missing-requires
still_missing-requires c = event_most _ _ _ (sym c.in_ok-judge.ensures)

pub returns : goal.returns
returns c = missing_is _ _ _ (sym c.in_ok-judge.ensures) _ _ c.still_missing.ensures
