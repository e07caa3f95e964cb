-- `table_of` meets its contract.
use Prim.Native.Nat.{◌-◌, ◌≤◌}
use Rattle.untested.specs.Page.{CountsBelow}
use Rattle.untested.proofs.table_of.Given as goal

-- the events passed are counted
abbrev pub invariant-loop-event : goal.invariant-loop-event
invariant-loop-event l = (l.event ≤ l.n) × CountsBelow l.cfg l.records l.event l.counts

abbrev pub decreases-loop-event : goal.decreases-loop-event
decreases-loop-event l = l.n - l.event
