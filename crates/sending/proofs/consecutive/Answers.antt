-- `consecutive` meets its contract.
use native.Mathlib.Omega.{arith}
use Prim.Native.Nat.{◌+◌, ◌%◌, ◌≤◌}
use mathlib.Core.Path.{ap, ◌∙◌}
use mathlib.Core.List.{◌∷◌}
use lib.ListN.{length, take, drop, length-take, replicate}
use lib.Seq.{sets}
use Rattle.transport.specs.Frames.{place, frame_of}
use Rattle.transport.proofs.FramesLaws.{has_tells}
use Rattle.sending.proofs.FramedLaws.{framed_one, part_is}
use Rattle.sending.proofs.consecutive.Goals as goal

pub overflow_mul-at : goal.overflow_mul-at
overflow_mul-at c = omega (arith, has_tells (length c.args.message.now) c.args.k c.requires)

pub overflow_sub-at : goal.overflow_sub-at
overflow_sub-at c = omega (arith, has_tells (length c.args.message.now) c.args.k c.requires)

pub overflow_sub-message : goal.overflow_sub-message
overflow_sub-message c =
    omega (arith, has_tells (length c.args.message.now) c.args.k c.requires)

pub overflow_add-end : goal.overflow_add-end
overflow_add-end c =
    omega (
      arith,
      has_tells (length c.args.message.now) c.args.k
          c.requires,
    )

pub slice_bounds-framed-end : goal.slice_bounds-framed-end
slice_bounds-framed-end c =
    omega (
      arith,
      has_tells (length c.args.message.now) c.args.k
          c.requires,
    )

pub returns : goal.returns
returns c =
    let m = c.args.message.now in
    let k = c.args.k in
    let part = take 7 (drop (place k) m) in
    let short : length part ≤ 7 = omega (arith, length-take 7 (drop (place k) m)) in
    framed_one (0x20 + k % 16) part short
    (c.framed.ensures
    ∙ ap (λ l. frame_of (sets ((0x20 + k % 16) ∷ replicate 7 0) 1 l))
    (part_is m (place k) _ c.min.ensures))
