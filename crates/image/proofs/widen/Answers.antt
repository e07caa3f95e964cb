use mathlib.Core.Path.{◌∙◌}
use native.Mathlib.Omega.{arith}
use Rattle.image.proofs.WidenedLaws.{begins, goes_on, ends}
use Rattle.image.proofs.widen.Goals as goal

pub loop-entry-init : goal.loop-entry-init
loop-entry-init c =
    let items = c.chunks_exact-entry-items.ensures in (
      rw c.into_iter-entry-iterator.ensures.into_iter_gives items.size,
      begins _ _ _ c.requires c.write-at.ensures c.write-at.auto.room
          (rw c.into_iter-entry-iterator.ensures.into_iter_gives items.rest),
    )

pub loop-entry-preserved : goal.loop-entry-preserved
loop-entry-preserved c =
    let inv = c.loop-entry.invariant in
    let steps = c.in-Some.ensures.steps in (
      steps.0 ∙ inv.0,
      goes_on _ _ _ _ steps.1.0 (steps.1.1 ∙ inv.0) _ inv.1.1 c.write_both-at.auto.memory
          c.write_both-at.ensures,
    )

pub returns : goal.returns
returns c =
    let inv = c.loop-entry.invariant in
    ends _ _ inv.1.1 (omega (arith, c.in-None.ensures.steps.1.0, inv.0))
