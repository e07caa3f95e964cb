use mathlib.Core.Path.{◌≡◌, refl, ap, ◌∙◌}
use Prim.Native.Nat.{ℕ, ◌-◌}
use native.Mathlib.Omega.{arith}
use lib.ListN.{length, length-set}
use Rattle.memory.specs.Block.{closed}
use Rattle.memory.proofs.BlockLaws.{closed_one}
use Rattle.memory.proofs.block.move_down.Goals as goal

pub overflow_sub-end : goal.overflow_sub-end
overflow_sub-end c = omega (arith, c.requires)

pub loop-i-init : goal.loop-i-init
loop-i-init c = (omega (arith, c.requires), refl, refl)

pub overflow_add-later : goal.overflow_add-later
overflow_add-later c = omega (arith, c.requires, c.loop-i-test.true, c.loop-i.invariant.1)

pub bounds-block-i : goal.bounds-block-i
bounds-block-i c = omega (arith, c.requires, c.loop-i-test.true, c.loop-i.invariant.1)

pub bounds-block-i-in-loop-i : goal.bounds-block-i-in-loop-i
bounds-block-i-in-loop-i c = omega (arith, c.requires, c.loop-i-test.true, c.loop-i.invariant.1)

pub overflow_step-i : goal.overflow_step-i
overflow_step-i c = omega (arith, c.requires, c.loop-i-test.true, c.loop-i.invariant.1)

pub loop-i-smaller : goal.loop-i-smaller
loop-i-smaller c = omega (arith, c.loop-i-test.true)

pub loop-i-preserved : goal.loop-i-preserved
loop-i-preserved c =
    let loop = c.loop-i in (
      omega (arith, c.loop-i-test.true),
      simp length-set loop.invariant.1,
      closed_one loop.i c.args.width loop.block (omega (arith, c.requires, c.loop-i-test.true, c.loop-i.invariant.1)) ∙ loop.invariant.2,
    )

pub shape_of-block : goal.shape_of-block
shape_of-block c = c.loop-i.invariant.1

pub returns : goal.returns
returns c =
    let loop = c.loop-i in
    let a = c.args in
    let all : length a.block.now - a.width ≡ loop.i = omega (arith, loop.invariant.0, c.loop-i-test.false) in (
      omega (arith, c.requires, loop.invariant.1),
      ap (λ (k : ℕ). closed k a.width loop.block) all ∙ loop.invariant.2,
    )
