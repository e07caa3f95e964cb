use mathlib.Core.Path.{◌≡◌}
use Prim.Native.Nat.{◌-◌, ◌≤◌}
use Rattle.manual.specs.Words.{all_below}
use Rattle.manual.specs.Configuration.{limits_of}
use Rattle.manual.specs.State.{opened, stored_at}
use Rattle.status.specs.Clauses.{limits_kept}
use Rattle.judgement.proofs.all_limits_kept.Given as goal

abbrev pub invariant-loop-event : goal.invariant-loop-event
invariant-loop-event l =
    (l.event ≤ l.n) × (l.ok ≡ all_below l.event (λ e. limits_kept (limits_of l.cfg e) (opened (stored_at e l.records))))

abbrev pub decreases-loop-event : goal.decreases-loop-event
decreases-loop-event l = l.n - l.event
