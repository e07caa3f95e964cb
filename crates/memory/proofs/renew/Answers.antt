use mathlib.Core.Path.{◌≡◌, sym, ap, subst, ◌∙◌}
use mathlib.Core.List.{◌++◌}
use Prim.Native.Nat.{ℕ, suc, min, ◌+◌, ◌≤◌}
use native.Mathlib.Omega.{arith}
use lib.ListN.{length}
use lib.Seq.{length-take-le}
use Rattle.manual.specs.Memory.{first_frame, renewed_payload, entries_of}
use Rattle.memory.specs.Places.{at_place}
use Rattle.memory.specs.Block.{replaced}
use Rattle.memory.proofs.renew.Goals as goal

pub slice_bounds-first-end : goal.slice_bounds-first-end
slice_bounds-first-end c =
    let pre = c.requires in
    sym (length-take-le _ _ (omega (arith, pre.1.1, pre.0.entries.payload_most)))

pub copy_first-requires : goal.copy_first-requires
copy_first-requires c =
    let pre = c.requires in
    let small : length c.args.frame.now ≤ 32 = omega (arith, pre.1.1, pre.0.entries.payload_most) in (
      pre.0,
      subst (λ (k : ℕ). k ≤ c.args.payload_bytes) (sym (length-take-le _ _ small)) (omega (arith, pre.1.1)),
    )

pub replace-requires : goal.replace-requires
replace-requires c =
    let a = c.args in
    let pre = c.requires in
    let small : length a.frame.now ≤ 32 = omega (arith, pre.1.1, pre.0.entries.payload_most) in (
      pre.0,
      (
        pre.1.0,
        subst (λ (k : ℕ). k + length a.frame.now ≡ a.payload_bytes)
            (sym (c.copy_first.auto.first ∙ length-take-le _ _ small))
            pre.1.1,
      ),
    )

pub returns : goal.returns
unfolding renewed_payload
returns c =
    let a = c.args in
    let pre = c.requires in
    let small : length a.frame.now ≤ 32 = omega (arith, pre.1.1, pre.0.entries.payload_most) in
    let old = (at_place a.place.0 (entries_of a.payload_bytes a.memory.now)).payload in
    let count =
    c.one_more-count.ensures
    ∙ ap (λ (k : ℕ). min 255 (suc k)) c.count_at.ensures in
    let first = c.copy_first.ensures ∙ ap (λ (k : ℕ). first_frame k old) (length-take-le _ _ small) in
    c.replace.ensures
    ∙
    (λ i. replaced a.payload_bytes a.place.0 a.event.0 (count i) (first i ++ a.frame.now)
    a.memory.now)
