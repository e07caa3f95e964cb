-- `limit_test` meets its contract.
use Rattle.manual.specs.Answers.{first_that_applies}
use Rattle.rehearsal.proofs.limit_test.Goals as goal

pub returns-then-past : goal.returns-then-past
unfolding first_that_applies
returns-then-past c = rw c.if-past.true

pub returns : goal.returns
unfolding first_that_applies
returns c = rw c.if-past.false
