use mathlib.Core.Path.{◌≡◌, ◌∙◌}
use Prim.Native.Nat.{◌+◌, ◌-◌}
use native.Mathlib.Omega.{arith}
use Rattle.untested.proofs.PageLaws.{left_whole, left_next, row_none, row_long, row_not_yet, row_more, row_put}
use Rattle.untested.proofs.count_bits.Goals as goal

pub loop-count-init : goal.loop-count-init
loop-count-init c =
    let eight : c.args.at + 8 - c.args.at ≡ 8 = omega arith in rw eight (row_none _ _, left_whole _)

pub overflow_add-count : goal.overflow_add-count
overflow_add-count c =
    let long = row_long _ _ c.requires.within in
    let at = c.loop-count-test.true in
    omega (arith, row_not_yet _ _ _ _ _ c.requires c.loop-count.invariant.0 (omega (arith, at, long)))

pub loop-count-preserved : goal.loop-count-preserved
loop-count-preserved c =
    let inv = c.loop-count.invariant in
    let at = c.loop-count-test.true in
    (row_more _ _ _ _ _ inv.0 inv.1 (omega (arith, at, c.loop-count.auto.count-items)), left_next _ _ _ inv.1)

pub returns : goal.returns
returns c =
    let eight : c.args.at + 8 - c.args.at ≡ 8 = omega arith in
    let long = row_long _ _ c.requires.within in
    let whole = c.loop-count.auto.count-items in
    let all : c.loop-count.count-index ≡ 8 =
    omega (arith, long, whole, c.loop-count.auto.count-index-end, c.loop-count-test.false) in
    rw eight (row_put _ _ _ _ c.requires.within (whole ∙ long) (rw all at c.loop-count.invariant.0))
