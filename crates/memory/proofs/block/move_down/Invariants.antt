use mathlib.Core.Path.{◌≡◌}
use Prim.Native.Nat.{◌≤◌, ◌-◌}
use lib.ListN.{length}
use Rattle.memory.specs.Block.{closed}
use Rattle.memory.proofs.block.move_down.Given as goal

-- the gap, which is now at i, closed from there on leaves what it leaves closed from the start
abbrev pub invariant-loop-i : goal.invariant-loop-i
invariant-loop-i l =
    (l.i ≤ l.end) × (length l.block ≡ length l.initial.block) × (closed l.i l.width l.block ≡ closed l.at l.width l.initial.block)

abbrev pub decreases-loop-i : goal.decreases-loop-i
decreases-loop-i l = l.end - l.i
