-- `read_frame` meets its contract.
use mathlib.Core.Path.{sym}
use Rattle.std.proofs.lemmas.Result.{err_from_is_err_and}
use Rattle.queries.proofs.ReadingLaws.{may_seek, frame_is, frame_refused}
use Rattle.queries.proofs.read_frame.Goals as goal

pub returns-in_err-judge : goal.returns-in_err-judge
returns-in_err-judge c =
    let p = err_from_is_err_and c.from_residual.result c.from_residual.ensures.1 in
    rw (p.1, p.2) (frame_refused _ _ _ _ c.in_err-judge.ensures c.args.which)

pub frame_of-requires : goal.frame_of-requires
frame_of-requires c = may_seek _ _ _ (sym c.in_ok-judge.ensures)

pub returns : goal.returns
returns c = rw c.frame_of.ensures (frame_is _ _ _ (sym c.in_ok-judge.ensures) c.args.which)
