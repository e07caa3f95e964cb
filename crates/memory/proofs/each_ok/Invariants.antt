use mathlib.Core.Path.{◌≡◌}
use Prim.Native.Nat.{◌≤◌, ◌-◌}
use lib.ListN.{drop}
use Rattle.history.specs.Words.{all_of}
use Rattle.manual.specs.Memory.{entries_of}
use Rattle.memory.specs.Judgement.{sound_entry}
use Rattle.memory.proofs.each_ok.Given as goal

abbrev pub invariant-loop-i : goal.invariant-loop-i
invariant-loop-i l =
    (l.i ≤ l.i-end) ×
    (all_of (sound_entry l.events l.records) (entries_of l.payload_bytes l.memory)
    ≡ all_of (sound_entry l.events l.records) (drop l.i (entries_of l.payload_bytes l.memory)))

abbrev pub decreases-loop-i : goal.decreases-loop-i
decreases-loop-i l = l.i-end - l.i
