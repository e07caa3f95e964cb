use mathlib.Core.Path.{◌∙◌}
use mathlib.Core.List.{◌++◌}
use Prim.Native.Nat.{◌-◌}
use native.Mathlib.Omega.{arith}
use Rattle.memory.specs.Block.{entered}
use Rattle.memory.proofs.SurgeryLaws.{room_in_use}
use Rattle.memory.proofs.replace.Goals as goal

pub enter-requires : goal.enter-requires
enter-requires c =
    let a = c.args in
    let pre = c.requires in (
      rw c.close_gap.ensures
          (room_in_use a.payload_bytes a.place.0 a.event.0 _ a.memory.now pre.0 pre.1.0
          (omega (arith, c.entry_count.ensures, pre.0.below))),
      pre.1.1,
    )

pub returns : goal.returns
returns c =
    let a = c.args in
    c.enter.ensures
    ∙
    (λ i. entered a.payload_bytes (c.entry_count.ensures i - 1) a.event.0 a.count
    (a.first.now ++ a.latest.now) (c.close_gap.ensures i))
