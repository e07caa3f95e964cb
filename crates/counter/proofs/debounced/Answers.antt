-- `debounced` meets its contract: what was read is what the row has, and 64 bits hold the shares.
use mathlib.Core.Path.{◌∙◌}
use lib.Dec.{lit≤}
use lib.IntN.{pos, neg_ℤ, +ℤ_idl}
use mir.Facts.{to_z-of_z}
use Rattle.config.proofs.SignedInCode.{back}
use Rattle.counter.proofs.WideLaws.{distance_most, share_fits}
use Rattle.counter.proofs.CounterInCode.{distance_is, share_is, below_zero_lem, from_zero}
use Rattle.counter.proofs.debounced.Goals as goal

pub returns-then-d-lt0 : goal.returns-then-d-lt0
returns-then-d-lt0 c =
    let kind = c.kind_of in
    let cfg = c.args.cfg.now in
    let e = c.args.event.0 in
    let d = c.args.d in
    let far = rw (to_z-of_z c.ranges.d) at c.distance-far.ensures in
    let f = share_fits 128 _ _ (lit≤ tt) (distance_most kind.result d c.ranges.d.sfits far) c.share-below.ensures in
    let low = back c.low_of.result c.low_of.type_inv ∙ c.low_of.ensures in
    let is = distance_is cfg e d kind.ensures far in
    rw (to_z-of_z f.0, +ℤ_idl (neg_ℤ (pos c.share-below.result)), to_z-of_z f.1)
    (below_zero_lem cfg e d (rw (to_z-of_z c.ranges.d) at c.if-d-lt0.true)
    (share_is cfg e 128 d is low c.share-below.ensures))

pub returns : goal.returns
returns c =
    let kind = c.kind_of in
    let cfg = c.args.cfg.now in
    let e = c.args.event.0 in
    let d = c.args.d in
    let far = rw (to_z-of_z c.ranges.d) at c.distance-far.ensures in
    let f =
    share_fits 127 _ _ (lit≤ tt) (distance_most kind.result d c.ranges.d.sfits far) c.share.ensures in
    let high = back c.high_of.result c.high_of.type_inv ∙ c.high_of.ensures in
    let is = distance_is cfg e d kind.ensures far in
    rw (to_z-of_z f.0)
    (from_zero cfg e d (rw (to_z-of_z c.ranges.d) at c.if-d-lt0.false)
    (share_is cfg e 127 d is high c.share.ensures))
