-- `copy` meets its contract.
use mathlib.Core.Path.{◌∙◌}
use native.Mathlib.Omega.{arith}
use lib.ListN.{length-set}
use Rattle.writing.proofs.PartlyWritten.{sets_first, sets_all, sets_laid}
use Rattle.writing.proofs.copy.Goals as goal

pub loop-i-preserved : goal.loop-i-preserved
loop-i-preserved g c =
    let a = c.args in
    let loop = c.loop-i in
    let copied = sets_first c.index-from-i.result a.from.now a.to.now loop.i c.loop-i-test.true c.index-from-i.is in
    (omega arith, rw loop.invariant.1 copied, simp length-set loop.invariant.2)

pub returns : goal.returns
returns g c =
    let a = c.args in
    c.loop-i.invariant.1 ∙ sets_all a.from.now a.to.now 0 c.loop-i.i (omega arith)
    ∙ sets_laid a.from.now a.to.now c.requires
