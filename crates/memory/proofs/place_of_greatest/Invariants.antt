use Prim.Native.Nat.{◌≤◌, ◌-◌}
use Rattle.manual.specs.Configuration.{priority_of}
use Rattle.manual.specs.Memory.{entries_of}
use Rattle.memory.proofs.VictimLaws.{Best, priority_at}
use Rattle.memory.proofs.place_of_greatest.Given as goal

abbrev pub invariant-loop-i : goal.invariant-loop-i
invariant-loop-i l =
    (l.i ≤ l.i-end) × Best (priority_at (priority_of l.cfg) (entries_of l.payload_bytes l.memory)) l.initial.top l.i l.best l.top

abbrev pub decreases-loop-i : goal.decreases-loop-i
decreases-loop-i l = l.i-end - l.i
