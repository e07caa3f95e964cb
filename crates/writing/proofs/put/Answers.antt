use mathlib.Core.Path.{refl, ◌∙◌}
use native.Mathlib.Omega.{arith}
use lib.ListN.{length-set}
use Rattle.writing.proofs.PartlyWritten.{sets_more, sets_all}
use Rattle.writing.proofs.put.Goals as goal

pub loop-i-init : goal.loop-i-init
loop-i-init c = (omega arith, refl, refl)

pub loop-i-preserved : goal.loop-i-preserved
loop-i-preserved c =
    let a = c.args in (
      omega arith,
      rw c.loop-i.invariant.1
          (sets_more 0 a.bytes.now a.block.now a.at c.loop-i.i
          c.loop-i-test.true refl),
      simp length-set c.loop-i.invariant.2,
    )

pub shape_of-block : goal.shape_of-block
shape_of-block c = c.loop-i.invariant.2

pub returns : goal.returns
returns c =
    let a = c.args in
    c.loop-i.invariant.1 ∙ sets_all a.bytes.now a.block.now a.at c.loop-i.i (omega arith)
