-- `put`: at each turn the first i bytes are stored. The measure is what is left of them.
use mathlib.Core.Path.{◌≡◌}
use Prim.Native.Nat.{◌-◌, ◌≤◌}
use lib.ListN.{length, take}
use lib.Seq.{sets}
use Rattle.writing.proofs.put.Given as goal

abbrev pub invariant-loop-i : goal.invariant-loop-i
invariant-loop-i l =
    (l.i ≤ length l.bytes) × (l.block ≡ sets l.initial.block l.at (take l.i l.bytes)) × (length l.block ≡ length l.initial.block)

abbrev pub decreases-loop-i : goal.decreases-loop-i
decreases-loop-i l = length l.bytes - l.i
