use mathlib.Core.Path.{◌≡◌}
use Prim.Native.Nat.{◌≤◌, ◌-◌}
use lib.ListN.{drop}
use Rattle.manual.specs.Memory.{is_of, entries_of}
use Rattle.memory.specs.Places.{place_of, first_place_from}
use Rattle.memory.proofs.place_of.Given as goal

abbrev pub invariant-loop-i : goal.invariant-loop-i
invariant-loop-i l =
    (l.i ≤ l.i-end) ×
    (place_of l.event.0 (entries_of l.payload_bytes l.memory)
    ≡ first_place_from (is_of l.event.0) l.i (drop l.i (entries_of l.payload_bytes l.memory)))

abbrev pub decreases-loop-i : goal.decreases-loop-i
decreases-loop-i l = l.i-end - l.i
