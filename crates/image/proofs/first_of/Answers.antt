-- Each answer finds the tests that were passed by itself, in whatever order they stand.
use native.Mathlib.Omega.{arith}
use Rattle.manual.specs.Answers.{first_that_applies}
use Rattle.image.proofs.first_of.Goals as goal

pub returns-then-running : goal.returns-then-running
unfolding first_that_applies
returns-then-running c = grind arith

pub returns-then-too_small : goal.returns-then-too_small
unfolding first_that_applies
returns-then-too_small c = grind arith

pub returns : goal.returns
unfolding first_that_applies
returns c = grind arith
