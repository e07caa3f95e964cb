-- `accept_save` meets its contract.
use mathlib.Core.List.{List}
use Rattle.manual.specs.Lent.{as_found}
use Rattle.image.proofs.SaveLaws.{cut_long, size_most, image_is, image_length}
use Rattle.writing.specs.Writing.{filled}
use mathlib.Core.Path.{ap, ◌∙◌}
use Prim.Native.Nat.{ℕ}
use native.Mathlib.Omega.{arith}
use Rattle.image.proofs.accept_save.Goals as goal

pub write_image-requires : goal.write_image-requires
write_image-requires c =
    let pre = c.requires in
    let s = as_found c.args.state.now in
    let used = c.used_length-used.ensures in
    let long = cut_long _ s pre.0 used in
    let all = image_length _ s pre.0 in
    (omega (arith, long, size_most _ s pre.0, used), omega (arith, long, pre.1, used, all))

pub returns : goal.returns
returns c =
    let a = c.args in
    c.write_image.ensures
    ∙ ap (λ (l : List ℕ). filled l a.room.now)
    (image_is _ (as_found a.state.now) c.requires.0 c.used_length-used.ensures)
