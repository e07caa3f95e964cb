use mathlib.Core.Path.{ap, ◌∙◌}
use mathlib.Core.List.{◌++◌}
use Prim.Native.Nat.{ℕ, ◌+◌}
use native.Mathlib.Omega.{arith}
use lib.ListN.{set, length-set}
use Rattle.manual.specs.Memory.{entry_count}
use Rattle.memory.specs.Block.{entered}
use Rattle.memory.proofs.append.Goals as goal

pub enter-requires : goal.enter-requires
enter-requires c =
    let pre = c.requires in
    let entry-count = c.entry_count in (
      record {
        payload_most = pre.0.payload_most;
        event_most = pre.0.event_most;
        place_most = omega (arith, entry-count.ensures, pre.0.place_most);
        within = simp length-set (rw entry-count.ensures pre.0.within);
      },
      pre.1,
    )

pub shape_of-memory : goal.shape_of-memory
shape_of-memory c =
    c.enter.auto.memory ∙ simp length-set

pub returns : goal.returns
returns c =
    let a = c.args in
    let m = a.memory.now in
    c.enter.ensures
    ∙ ap
    (λ (k : ℕ). entered a.payload_bytes k a.event.0 a.count (a.first.now ++ a.latest.now)
    (set m 0 (entry_count m + 1)))
    c.entry_count.ensures
