-- `accept_start` meets its contract.
use mathlib.Core.Path.{◌≡◌}
use mathlib.Core.List.{List}
use lib.IntN.{ℤ}
use Rattle.manual.specs.declared.Board.{Board}
use Prim.Native.Nat.{ℕ, ◌-◌, ◌≤◌}
use lib.ListN.{length}
use Rattle.history.specs.History.{start}
use Rattle.manual.specs.Words.{for_below}
use Rattle.manual.specs.State.{lent}
use Rattle.manual.specs.OneEvent.{happens}
use Rattle.manual.specs.Calls.{of_cycle}
use Rattle.one_event.proofs.TurnsLaws.{turn}
use Rattle.cycles.proofs.accept_start.Given as goal

abbrev pub invariant-loop-event : goal.invariant-loop-event
invariant-loop-event l =
    (l.event ≤ l.event-end)
    × (((d : List ℤ) (m : List ℕ) (b : Board)
    → lent l.records d m b
    ≡ for_below l.event (turn (of_cycle l.cfg l.cycle) (happens l.cfg start)) (lent l.initial.records d m b))
    × (length l.records ≡ length l.initial.records))

abbrev pub decreases-loop-event : goal.decreases-loop-event
decreases-loop-event l = l.event-end - l.event
