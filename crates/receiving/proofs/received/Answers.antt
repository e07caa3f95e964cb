-- `received` meets its contract.
use native.Mathlib.Omega.{arith}
use borrow.Author.Tests.{eq-eqb, ne_eqb}
use Rattle.transport.specs.Receiving.{received}
use Rattle.transport.proofs.FramesLaws.{has_tells}
use Rattle.receiving.proofs.received.Goals as goal

pub returns-then-k-size : goal.returns-then-k-size
unfolding received
returns-then-k-size c = simp (eq-eqb _ _ c.if-k-size.true)

pub overflow_add-k : goal.overflow_add-k
overflow_add-k c = omega (arith, has_tells c.args.size c.args.k c.requires)

pub returns : goal.returns
unfolding received
returns c = simp (ne_eqb _ _ c.if-k-size.false) c.awaits.ensures
