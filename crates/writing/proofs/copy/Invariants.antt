-- `copy`: at each turn the first i elements are stored.
use mathlib.Core.Path.{◌≡◌}
use Prim.Native.Nat.{◌≤◌}
use lib.ListN.{length, take}
use lib.Seq.{sets}
use Rattle.writing.proofs.copy.Given as goal

abbrev pub invariant-loop-i : goal.invariant-loop-i
invariant-loop-i g l =
    (l.i ≤ length l.from) × (l.to ≡ sets l.initial.to 0 (take l.i l.from)) × (length l.to ≡ length l.initial.to)
