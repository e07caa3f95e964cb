-- `forget` meets its contract: the bytes in use are a block of their own.
use mathlib.Core.Path.{sym, ap, subst, ◌∙◌}
use mathlib.Core.List.{List, ◌++◌}
use Prim.Native.Nat.{ℕ}
use lib.ListN.{take, drop}
use lib.Seq.{length-take-le}
use Rattle.memory.specs.Block.{removed}
use Rattle.memory.specs.Fits.{PlaceFits}
use Rattle.memory.proofs.StoreLaws.{may_seek, may_use, used_within, may_remove_in_front, forgets_in_front, forgets_nothing}
use Rattle.memory.proofs.forget.Goals as goal

pub place_of-requires : goal.place_of-requires
place_of-requires c =
    may_seek _ _ _ _ _ c.requires c.entry_frames-payload_bytes.ensures c.args.event.0

pub bytes_in_use-used-requires : goal.bytes_in_use-used-requires
bytes_in_use-used-requires c =
    let entry-frames = c.entry_frames-payload_bytes in
    may_use _ _ _ _ _ c.requires entry-frames.ensures c.args.event.0

pub slice_bounds-remove-end : goal.slice_bounds-remove-end
slice_bounds-remove-end c =
    let event = c.args.event in
    let entry-frames = c.entry_frames-payload_bytes in
    used_within _ _ _ _ _ c.requires entry-frames.ensures event.0 c.bytes_in_use-used.ensures

pub slice_bounds-remove-end-in-Some : goal.slice_bounds-remove-end-in-Some
slice_bounds-remove-end-in-Some c =
    let event = c.args.event in
    sym
    (length-take-le _ _
    (used_within _ _ _ _ _ c.requires c.entry_frames-payload_bytes.ensures event.0
    c.bytes_in_use-used.ensures))

pub remove-requires : goal.remove-requires
remove-requires c =
    let a = c.args in
    let entry-frames = c.entry_frames-payload_bytes in
    subst (λ (k : ℕ). PlaceFits entry-frames.result (take k a.memory.now) c.in-Some.place.0)
    (sym c.bytes_in_use-used.ensures)
    (may_remove_in_front _ _ _ _ _ c.requires entry-frames.ensures a.event.0 _
    (sym c.place_of.ensures ∙ c.in-Some.is))

pub returns-in-Some : goal.returns-in-Some
returns-in-Some c =
    let a = c.args in
    let entry-frames = c.entry_frames-payload_bytes in
    let used = c.bytes_in_use-used in
    let m = a.memory.now in
    ap (λ (l : List ℕ). l ++ drop used.result m) c.remove.ensures
    ∙ ap (λ (k : ℕ). removed entry-frames.result c.in-Some.place.0 (take k m) ++ drop k m) used.ensures
    ∙ forgets_in_front _ _ _ _ _ c.requires entry-frames.ensures a.event.0 _
    (sym c.place_of.ensures ∙ c.in-Some.is)

pub returns-in_default : goal.returns-in_default
returns-in_default c =
    let event = c.args.event in
    let entry-frames = c.entry_frames-payload_bytes in
    forgets_nothing _ _ _ _ _ c.requires entry-frames.ensures
    event.0
    (sym c.place_of.ensures ∙ c.in_default.is)
