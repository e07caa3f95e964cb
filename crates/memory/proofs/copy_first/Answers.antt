use mathlib.Core.Path.{sym, ap, ◌∙◌}
use native.Mathlib.Omega.{arith}
use lib.ListN.{length, take}
use Rattle.writing.proofs.PartlyWritten.{laid_whole}
use Rattle.memory.proofs.PlacesLaws.{front_long}
use Rattle.memory.proofs.copy_first.Goals as goal

pub slice_bounds-copy-end : goal.slice_bounds-copy-end
slice_bounds-copy-end c =
    let pre = c.requires in
    sym (front_long _ _ _ _ _ pre.0 c.payload_at-payload.ensures pre.1)

pub copy-requires : goal.copy-requires
copy-requires c =
    let pre = c.requires in
    omega (arith, front_long _ _ _ _ _ pre.0 c.payload_at-payload.ensures pre.1)

pub returns : goal.returns
returns c =
    let first = c.args.first.now in
    let payload = c.payload_at-payload.ensures in
    c.copy.ensures
    ∙ laid_whole _ first (omega (arith, front_long _ _ _ _ _ c.requires.0 payload c.requires.1))
    ∙ ap (take (length first)) payload
