use mathlib.Core.Path.{◌≡◌}
use Prim.Native.Nat.{◌-◌, ◌≤◌}
use Rattle.manual.specs.Words.{count_below}
use Rattle.diagnostics.specs.Replies.{holding, asks}
use Rattle.diagnostics.proofs.number_asked.Given as goal

-- the events passed are counted
abbrev pub invariant-loop-event : goal.invariant-loop-event
invariant-loop-event l =
    (l.event ≤ l.n) × (l.number ≡ count_below l.event (asks l.cfg l.asked (holding l.state.records.now l.state.debounce.now)))

abbrev pub decreases-loop-event : goal.decreases-loop-event
decreases-loop-event l = l.n - l.event
