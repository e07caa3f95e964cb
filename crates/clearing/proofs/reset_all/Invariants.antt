use mathlib.Core.Path.{◌≡◌}
use mathlib.Core.List.{List}
use Prim.Native.Nat.{ℕ, ◌-◌, ◌≤◌}
use lib.ListN.{length}
use Rattle.manual.specs.declared.Board.{Board}
use Rattle.manual.specs.Words.{for_below}
use Rattle.manual.specs.State.{lent}
use Rattle.one_event.specs.Steps.{resetting}
use Rattle.clearing.proofs.reset_all.Given as goal

abbrev pub invariant-loop-event : goal.invariant-loop-event
invariant-loop-event l =
    (l.event ≤ l.n)
    ×
    ((m : List ℕ) (b : Board)
    → lent l.records l.debounce m b ≡ for_below l.event (resetting l.cfg) (lent l.initial.records l.initial.debounce m b))
    × (length l.records ≡ length l.initial.records) × (length l.debounce ≡ length l.initial.debounce)

abbrev pub decreases-loop-event : goal.decreases-loop-event
decreases-loop-event l = l.n - l.event
