-- `read_paint` meets its contract.
use mathlib.Core.Path.{sym}
use Rattle.std.proofs.lemmas.Result.{err_from_is_err_and}
use Rattle.untested.proofs.PageLaws.{event_read, paint_is_lem, paint_refused}
use Rattle.untested.proofs.read_paint.Goals as goal

pub returns-in_err-judge : goal.returns-in_err-judge
returns-in_err-judge c =
    let p = err_from_is_err_and c.from_residual.result c.from_residual.ensures.1 in
    rw (p.1, p.2) (paint_refused _ _ _ _ c.in_err-judge.ensures)

pub paint_of-requires : goal.paint_of-requires
paint_of-requires c = event_read _ _ _ (sym c.in_ok-judge.ensures)

pub returns : goal.returns
returns c = paint_is_lem _ _ _ (sym c.in_ok-judge.ensures) c.paint_of.ensures
