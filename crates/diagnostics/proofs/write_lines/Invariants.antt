use mathlib.Core.Path.{◌≡◌}
use Prim.Native.Nat.{◌-◌, ◌≤◌}
use lib.ListN.{length}
use Rattle.manual.specs.Words.{join_below}
use Rattle.writing.specs.Writing.{written, append}
use Rattle.diagnostics.specs.Replies.{holding, line_if_asked}
use Rattle.diagnostics.proofs.write_lines.Given as goal

-- the lines of the events passed stand in the room
abbrev pub invariant-loop-event : goal.invariant-loop-event
invariant-loop-event l =
    (l.event ≤ l.n) ×
    (written l.next l.room
    ≡ append (join_below l.event (line_if_asked l.cfg l.asked (holding l.state.records.now l.state.debounce.now))) (written l.at l.initial.room))
    × (length l.room ≡ length l.initial.room)

abbrev pub decreases-loop-event : goal.decreases-loop-event
decreases-loop-event l = l.n - l.event
