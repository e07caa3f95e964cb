-- `stop_events` meets its contract.
use mathlib.Core.Path.{◌≡◌}
use Prim.Native.Nat.{◌-◌, ◌≤◌}
use Rattle.manual.specs.Words.{for_below}
use Rattle.manual.specs.Lent.{as_lent, keeps_loans}
use Rattle.manual.specs.OneEvent.{stops}
use Rattle.manual.specs.Calls.{of_cycle}
use Rattle.one_event.proofs.TurnsLaws.{turn}
use Rattle.cycles.proofs.stop_events.Given as goal

abbrev pub invariant-loop-event : goal.invariant-loop-event
invariant-loop-event l =
    (l.event ≤ l.event-end)
    × (keeps_loans l.initial.state l.state
    × (as_lent l.state ≡ for_below l.event (turn (of_cycle l.cfg l.cycle) (stops l.cfg)) (as_lent l.initial.state)))

abbrev pub decreases-loop-event : goal.decreases-loop-event
decreases-loop-event l = l.event-end - l.event
