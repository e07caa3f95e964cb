use borrow.Author.Tests.{eq-eqb, ne_eqb, lt-ltb, le-ltb}
use Rattle.manual.specs.Answers.{first_that_applies}
use Rattle.diagnostics.proofs.judge_sizes.Goals as goal

pub returns-then-room-lt3 : goal.returns-then-room-lt3
unfolding first_that_applies
returns-then-room-lt3 c = rw (lt-ltb _ _ c.if-room-lt3.true)

pub returns-then-request-eq0 : goal.returns-then-request-eq0
unfolding first_that_applies
returns-then-request-eq0 c = rw (le-ltb _ _ c.if-room-lt3.false, eq-eqb _ _ c.if-request-eq0.true)

pub returns : goal.returns
unfolding first_that_applies
returns c = rw (le-ltb _ _ c.if-room-lt3.false, ne_eqb _ _ c.if-request-eq0.false)
