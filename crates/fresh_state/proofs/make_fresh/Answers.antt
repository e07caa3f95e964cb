use Rattle.fresh_state.proofs.FreshLaws.{records_as_long, state_fresh}
use Rattle.fresh_state.proofs.make_fresh.Goals as goal

pub fresh_records-requires : goal.fresh_records-requires
fresh_records-requires c = records_as_long _ _ _ _ _ c.requires

pub returns-clause-promise : goal.returns-clause-promise
returns-clause-promise c =
    state_fresh _ _ _ _ _ c.requires
    c.fresh_records.ensures
    c.reset_numbers.ensures
    c.zero_from.ensures
    c.stopped_board-state.ensures
