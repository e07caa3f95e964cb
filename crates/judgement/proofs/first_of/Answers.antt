-- Each answer finds the tests that were passed by itself, in whatever order they stand.
use native.Mathlib.Omega.{arith}
use Rattle.manual.specs.Answers.{first_that_applies}
use Rattle.judgement.proofs.first_of.Goals as goal

pub returns-then-not-config_ok : goal.returns-then-not-config_ok
unfolding first_that_applies
returns-then-not-config_ok c = grind arith

pub returns-then-not-state_ok : goal.returns-then-not-state_ok
unfolding first_that_applies
returns-then-not-state_ok c = grind arith

pub returns : goal.returns
unfolding first_that_applies
returns c = grind arith
