use mathlib.Core.Path.{◌≡◌}
use Prim.Native.Nat.{◌-◌, ◌≤◌}
use Rattle.manual.specs.Words.{all_below}
use Rattle.config.specs.Rows.{row_fits}
use Rattle.config.proofs.rows_fit.Given as goal

-- the rows passed fit exactly where `fit` says so
abbrev pub invariant-loop-event : goal.invariant-loop-event
invariant-loop-event l = (l.event ≤ l.n) × (l.fit ≡ all_below l.event (row_fits l.cfg))

abbrev pub decreases-loop-event : goal.decreases-loop-event
decreases-loop-event l = l.n - l.event
