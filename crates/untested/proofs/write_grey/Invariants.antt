-- `write_grey` meets its contract.
use mathlib.Core.Path.{◌≡◌}
use Prim.Native.Nat.{◌-◌, ◌≤◌}
use lib.ListN.{length}
use Rattle.manual.specs.Words.{join_below}
use Rattle.writing.specs.Writing.{written, append}
use Rattle.untested.specs.Page.{holding, if_grey}
use Rattle.untested.proofs.write_grey.Given as goal

-- the grey events passed stand at the front of the list
abbrev pub invariant-loop-event : goal.invariant-loop-event
invariant-loop-event l =
    (l.event ≤ l.n) ×
    (written l.next l.list ≡ append (join_below l.event (if_grey l.cfg (holding l.records l.board))) (written 0 l.initial.list))
    × (length l.list ≡ length l.initial.list)

abbrev pub decreases-loop-event : goal.decreases-loop-event
decreases-loop-event l = l.n - l.event
