-- `tick_event` meets its contract: the event has a row.
use Rattle.config.proofs.PartLaws.{row_within}
use Rattle.reporting.proofs.one_tick.tick_event.Goals as goal

pub tick_moves-requires : goal.tick_moves-requires
tick_moves-requires c =
    let ready = c.requires.0 in
    row_within _ _ ready.event.configured ready.event.blocks.below
