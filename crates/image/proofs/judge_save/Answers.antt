-- `judge_save` meets its contract.
use mathlib.Core.Path.{◌∙◌}
use Rattle.std.proofs.lemmas.Result.{err_from_is_err_and}
use Rattle.manual.specs.Lent.{as_found}
use Rattle.image.proofs.SaveLaws.{begun_savable, judged_on, judged_stop}
use Rattle.image.proofs.judge_save.Goals as goal

pub image_length-requires : goal.image_length-requires
image_length-requires c = begun_savable _ c.args.room.now (as_found c.args.state.now) c.in_ok-begin.ensures

pub returns : goal.returns
returns c =
    c.first_of.ensures
    ∙ judged_on _ c.args.room.now _ c.in_ok-begin.ensures c.any_runs.ensures c.image_length.ensures

pub returns-in_err-begin : goal.returns-in_err-begin
returns-in_err-begin c =
    let p = err_from_is_err_and c.from_residual.result c.from_residual.ensures.1 in
    rw (p.1, p.2) (judged_stop _ _ _ _ c.in_err-begin.ensures)
