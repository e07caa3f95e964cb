-- `start` meets its contract.
use borrow.Author.Tests.{le-leb, lt-leb}
use Rattle.transport.specs.Sending.{start}
use Rattle.sending.proofs.start.Goals as goal

pub returns-then-not-allowed : goal.returns-then-not-allowed
unfolding start
returns-then-not-allowed c = simp (← c.allowed.ensures, c.if-not-allowed.true)

pub returns-then-message-le7 : goal.returns-then-message-le7
unfolding start
returns-then-message-le7 c =
    simp (
      c.single.ensures,
      ← c.allowed.ensures,
      c.if-not-allowed.false,
      le-leb _ _ c.if-message-le7.true,
    )

pub returns : goal.returns
unfolding start
returns c =
    simp (
      c.first.ensures,
      ← c.allowed.ensures,
      c.if-not-allowed.false,
      lt-leb _ _ c.if-message-le7.false,
    )
