-- `next` meets its contract.
use Rattle.transport.specs.Sending.{running}
use Rattle.sending.proofs.next.Goals as goal

pub returns-then-not-has : goal.returns-then-not-has
unfolding running
returns-then-not-has c = simp (c.in-Running.is, ← c.has.ensures, c.if-not-has.true)

pub returns : goal.returns
unfolding running
returns c =
    simp (
      c.in-Running.is,
      c.consecutive.ensures,
      c.sent.ensures,
      ← c.has.ensures,
      c.if-not-has.false,
    )
