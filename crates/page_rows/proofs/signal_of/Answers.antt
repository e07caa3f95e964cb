-- `signal_of` meets its contract.
use Rattle.page_rows.proofs.RowsLaws.{event_in_lem, in_blocks, entries_ok, signal_is}
use Rattle.page_rows.proofs.signal_of.Goals as goal

pub paint_of-paint-requires : goal.paint_of-paint-requires
paint_of-paint-requires c = in_blocks _ _ _ c.requires

pub code_of-code-requires : goal.code_of-code-requires
code_of-code-requires c = event_in_lem _ _ _ c.requires

pub cycle_of-cycle-requires : goal.cycle_of-cycle-requires
cycle_of-cycle-requires c = event_in_lem _ _ _ c.requires

pub count_of-count-requires : goal.count_of-count-requires
count_of-count-requires c = entries_ok _ _ _ c.requires

pub returns : goal.returns
returns c =
    signal_is _ _ _ _ _ _ c.paint_of-paint.ensures c.code_of-code.ensures c.cycle_of-cycle.ensures c.runs-runs.ensures c.raised_of-raised.ensures c.count_of-count.ensures c.status_of-status.ensures
