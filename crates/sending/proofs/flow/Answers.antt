-- `flow` meets its contract.
use Rattle.transport.specs.Sending.{waiting}
use Rattle.sending.proofs.flow.Goals as goal

pub returns-then-not-has : goal.returns-then-not-has
unfolding waiting
returns-then-not-has c = simp (c.in-Waiting.is, ← c.has.ensures, c.if-not-has.true)

pub returns : goal.returns
unfolding waiting
returns c = simp (c.in-Waiting.is, ← c.has.ensures, c.if-not-has.false) c.controlled-answer.ensures
