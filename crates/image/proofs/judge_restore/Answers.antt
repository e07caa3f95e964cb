-- `judge_restore` meets its contract.
use Rattle.std.proofs.lemmas.Result.{err_from_is_err_and}
use Rattle.image.proofs.RestoreLaws.{begun_accepted, judged_image, judged_stop}
use Rattle.image.proofs.judge_restore.Goals as goal

pub judge_image-requires : goal.judge_image-requires
judge_image-requires c =
    begun_accepted _ c.args.image.now c.args.counts.now _ c.fit-fits.ensures c.in_ok-begin_with_lengths.ensures

pub returns-clause-number : goal.returns-clause-number
returns-clause-number c =
    judged_image _ _ _ _ c.fit-fits.ensures c.in_ok-begin_with_lengths.ensures _ c.judge_image.ensures

pub returns-in_err-begin_with_lengths-clause-number : goal.returns-in_err-begin_with_lengths-clause-number
returns-in_err-begin_with_lengths-clause-number c =
    let p = err_from_is_err_and c.from_residual.result c.from_residual.ensures.1 in
    rw (p.1, p.2) (judged_stop _ _ _ _ c.fit-fits.ensures _ c.in_err-begin_with_lengths.ensures)
