use mathlib.Core.Path.{◌≡◌}
use Prim.Native.Nat.{◌-◌, ◌≤◌}
use lib.ListN.{length}
use Rattle.fresh_state.proofs.FreshLaws.{fresh_to}
use Rattle.fresh_state.proofs.fresh_records.Given as goal

abbrev pub invariant-loop-event : goal.invariant-loop-event
invariant-loop-event l =
    (l.event ≤ l.event-end) × (l.records ≡ fresh_to l.cfg l.initial.records l.event) × (length l.records ≡ length l.initial.records)

abbrev pub decreases-loop-event : goal.decreases-loop-event
decreases-loop-event l = l.event-end - l.event
