use Rattle.std.proofs.lemmas.Result.{err_from_is_err_and}
use Rattle.fresh_state.proofs.FreshLaws.{as_read, blocks_fit, five_lent, made_fresh, left_as_found}
use Rattle.fresh_state.proofs.fresh.Goals as goal

pub make_fresh-requires : goal.make_fresh-requires
make_fresh-requires c =
    blocks_fit _ _ c.fit-fits.result (as_read _ _ _ c.as_found.ensures c.in_ok-begin_with_lengths.ensures)

pub reset-requires : goal.reset-requires
reset-requires c =
    five_lent _ _ _ (as_read _ _ _ c.as_found.ensures c.in_ok-begin_with_lengths.ensures)
    c.args.counts.now c.fit-fits.ensures

pub returns-clause-leaves : goal.returns-clause-leaves
returns-clause-leaves c =
    made_fresh _ _ _ _ c.fit-fits.ensures (as_read _ _ _ c.as_found.ensures c.in_ok-begin_with_lengths.ensures)
    c.make_fresh.ensures.promise c.reset.ensures

pub returns-in_err-begin_with_lengths-clause-leaves : goal.returns-in_err-begin_with_lengths-clause-leaves
returns-in_err-begin_with_lengths-clause-leaves c =
    let p = err_from_is_err_and c.from_residual.result c.from_residual.ensures.1 in
    rw (p.1, p.2)
    (left_as_found _ _ _ _ c.fit-fits.ensures _
    (as_read _ _ _ c.as_found.ensures c.in_err-begin_with_lengths.ensures))
