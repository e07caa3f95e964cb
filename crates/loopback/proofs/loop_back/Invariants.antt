-- `loop_back` meets its contract.
use mathlib.Core.Path.{◌≡◌}
use Prim.Native.Nat.{◌-◌, ◌≤◌}
use lib.ListN.{length}
use Rattle.transport.specs.Exchange.{on_line, begun, turns}
use Rattle.loopback.proofs.loop_back.Given as goal

abbrev pub invariant-loop : goal.invariant-loop
invariant-loop l =
    (l.counter ≤ l.frames)
    × (on_line l.line l.room ≡ turns (λ n. l.flow.block) (λ n. l.flow.separation) (λ n. 0) l.message l.counter (begun l.message l.initial.room))
    × (length l.room ≡ length l.initial.room)

abbrev pub decreases-loop : goal.decreases-loop
decreases-loop l = l.frames - l.counter
