use mathlib.Core.Path.{◌≡◌}
use Prim.Native.Nat.{◌-◌, ◌≤◌}
use lib.ListN.{length, take, drop}
use Rattle.replay_step.specs.Beginning.{read_to, numbers_read}
use Rattle.replay_step.proofs.read_numbers.Given as goal

abbrev pub invariant-loop-place : goal.invariant-loop-place
invariant-loop-place l =
    (l.place ≤ l.count) × (length l.cfg ≡ length l.initial.cfg) ×
    (numbers_read l.place l.initial.next.at l.text ≡ read_to (take l.place l.cfg) l.next.at) × (drop l.place l.cfg ≡ drop l.place l.initial.cfg)

abbrev pub decreases-loop-place : goal.decreases-loop-place
decreases-loop-place l = l.count - l.place
