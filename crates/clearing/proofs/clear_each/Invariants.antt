use mathlib.Core.Path.{◌≡◌}
use Prim.Native.Nat.{◌≤◌}
use Rattle.manual.specs.Lent.{as_lent, keeps_loans}
use Rattle.clearing.proofs.ClearingLaws.{up_to}
use Rattle.clearing.proofs.clear_each.Given as goal

abbrev pub invariant-loop-event : goal.invariant-loop-event
invariant-loop-event l =
    (l.event ≤ l.event-end) × (as_lent l.state ≡ up_to l.cfg l.code l.event (as_lent l.initial.state))
    × keeps_loans l.initial.state l.state
