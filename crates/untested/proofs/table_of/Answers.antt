use mathlib.Core.Path.{◌≡◌, sym}
use native.Mathlib.Omega.{arith}
use Rattle.untested.proofs.PageLaws.{counts_none, counts_are_table}
use Rattle.untested.proofs.table_of.Goals as goal

pub events-n-requires : goal.events-n-requires
events-n-requires c = tt

pub loop-event-init : goal.loop-event-init
loop-event-init c = (omega arith, counts_none _ _)

pub slice_bounds-count_event-end : goal.slice_bounds-count_event-end
slice_bounds-count_event-end c = sym c.loop-event.invariant.1.long

pub count_event-requires : goal.count_event-requires
count_event-requires c = record {
  config = c.requires;
  event_inside = rw c.events-n.ensures at c.loop-event-test.true;
  so_far = c.loop-event.invariant.1;
}

pub loop-event-preserved : goal.loop-event-preserved
loop-event-preserved c = (omega arith, c.count_event.ensures)

pub returns : goal.returns
returns c =
    let e : c.loop-event.event ≡ c.events-n.result = omega arith in
    counts_are_table _ _ _ (rw (← c.events-n.ensures, ← e) c.loop-event.invariant.1)
