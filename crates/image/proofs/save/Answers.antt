-- `save` meets its contract.
use Rattle.std.proofs.lemmas.Result.{err_from_is_err_and}
use Rattle.image.proofs.SaveLaws.{save_ready, save_room, save_done, save_left}
use Rattle.image.proofs.save.Goals as goal

pub accept_save-requires : goal.accept_save-requires
accept_save-requires c =
    let z = c.in_ok-judge_save.ensures in (save_ready _ c.args.room.now _ z, save_room _ c.args.room.now _ z)

pub returns : goal.returns
returns c = save_done _ c.args.room.now _ c.in_ok-judge_save.ensures c.accept_save.ensures

pub returns-in_err-judge_save : goal.returns-in_err-judge_save
returns-in_err-judge_save c =
    let p = err_from_is_err_and c.from_residual.result c.from_residual.ensures.1 in
    rw (p.1, p.2) (save_left _ _ _ _ c.in_err-judge_save.ensures)
