use mathlib.Core.Path.{sym, ap, ◌∙◌}
use Prim.Native.Nat.{ℕ, ◌+◌}
use native.Mathlib.Nat.{add-sub_cancel_left}
use native.Mathlib.Omega.{arith}
use lib.ListN.{take, drop}
use Rattle.memory.proofs.PlacesLaws.{entry_within, frame_is_at}
use Rattle.memory.proofs.payload_at.Goals as goal

pub overflow_add-start : goal.overflow_add-start
overflow_add-start c = omega (arith, c.start_of-start.ensures, entry_within _ _ _ c.requires)

pub overflow_add-end : goal.overflow_add-end
overflow_add-end c = omega (arith, c.start_of-start.ensures, entry_within _ _ _ c.requires)

pub slice_bounds-result-end : goal.slice_bounds-result-end
slice_bounds-result-end c = omega (arith, c.start_of-start.ensures, entry_within _ _ _ c.requires)

pub returns : goal.returns
returns c =
    rw add-sub_cancel_left
    (ap (λ (k : ℕ). take c.args.payload_bytes (drop (k + 3) c.args.memory.now)) c.start_of-start.ensures
    ∙ sym (frame_is_at _ c.args.memory.now _ c.requires.below))
