use mathlib.Core.Path.{◌≡◌}
use Prim.Native.Nat.{◌≤◌}
use lib.ListN.{drop}
use Rattle.manual.specs.Memory.{entry_count, entries_of, no_twice}
use Rattle.memory.proofs.SeenLaws.{Marks}
use Rattle.memory.proofs.none_twice.Given as goal

-- `seen` marks the events of the entries passed, and `once` says that no two of these are equal
abbrev pub invariant-loop-i : goal.invariant-loop-i
invariant-loop-i l =
    (l.i ≤ entry_count l.memory) × (l.once ≡ no_twice (drop l.i (entries_of l.payload_bytes l.memory))) ×
    Marks l.seen (drop l.i (entries_of l.payload_bytes l.memory))

abbrev pub decreases-loop-i : goal.decreases-loop-i
decreases-loop-i l = l.i
