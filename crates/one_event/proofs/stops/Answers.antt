-- `stops` meets its contract.
use Rattle.one_event.proofs.LentLaws.{stops_is}
use Rattle.one_event.proofs.stops.Goals as goal

pub stop_record-aged-requires : goal.stop_record-aged-requires
stop_record-aged-requires c =
    let fits = c.requires in
    record {
      configured = fits.configured;
      below = fits.blocks.below;
      records_as_long = fits.blocks.records_as_long;
      kept = fits.kept;
    }

pub returns-clause-promise : goal.returns-clause-promise
returns-clause-promise c =
    let a = c.args in
    let s = a.state.now in
    stops_is a.cfg.now a.event.0 s.records.now s.debounce.now s.memory.now
    c.reset_number.ensures
    c.stop_record-aged.ensures.0 c.stop_record-aged.ensures.1
    c.entry_leaves_if.ensures s.board
