use Rattle.memory.proofs.VictimLaws.{rests_at}
use mathlib.Core.Path.{◌≡◌}
use Prim.Native.Nat.{◌≤◌, ◌-◌}
use lib.ListN.{drop}
use Rattle.manual.specs.Configuration.{priority_of}
use Rattle.manual.specs.Memory.{entries_of}
use Rattle.memory.specs.Places.{first_place_from, first_place}
use Rattle.memory.specs.Store.{quiet_in}
use Rattle.memory.proofs.place_of_resting.Given as goal

abbrev pub invariant-loop-i : goal.invariant-loop-i
invariant-loop-i l =
    (l.i ≤ l.i-end) ×
    (first_place (rests_at (priority_of l.cfg) (quiet_in l.records) l.p) (entries_of l.payload_bytes l.memory)
    ≡ first_place_from (rests_at (priority_of l.cfg) (quiet_in l.records) l.p) l.i (drop l.i (entries_of l.payload_bytes l.memory)))

abbrev pub decreases-loop-i : goal.decreases-loop-i
decreases-loop-i l = l.i-end - l.i
