-- `number_grey` meets its contract.
use mathlib.Core.Path.{◌≡◌}
use Prim.Native.Nat.{◌-◌, ◌≤◌}
use Rattle.manual.specs.Words.{count_below}
use Rattle.manual.specs.Untested.{is_grey}
use Rattle.untested.specs.Page.{holding}
use Rattle.untested.proofs.number_grey.Given as goal

-- the events passed are counted
abbrev pub invariant-loop-event : goal.invariant-loop-event
invariant-loop-event l =
    (l.event ≤ l.n) × (l.number ≡ count_below l.event (is_grey l.cfg (holding l.records l.board)))

abbrev pub decreases-loop-event : goal.decreases-loop-event
decreases-loop-event l = l.n - l.event
