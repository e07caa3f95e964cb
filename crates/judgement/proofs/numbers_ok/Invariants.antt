use mathlib.Core.Path.{◌≡◌}
use Prim.Native.Nat.{◌-◌, ◌≤◌}
use lib.IntN.{pos}
use lib.ListN.{get_or}
use Rattle.manual.specs.Words.{all_below}
use Rattle.manual.specs.WellFormed.{d_ok}
use Rattle.judgement.proofs.numbers_ok.Given as goal

abbrev pub invariant-loop-event : goal.invariant-loop-event
invariant-loop-event l =
    (l.event ≤ l.event-end) × (l.ok ≡ all_below l.event (λ e. d_ok l.cfg l.board e (get_or l.debounce e (pos 0))))

abbrev pub decreases-loop-event : goal.decreases-loop-event
decreases-loop-event l = l.event-end - l.event
