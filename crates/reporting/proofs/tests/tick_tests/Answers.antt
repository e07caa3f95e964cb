-- `tick_tests` meets its contract: each test in turn.
-- Each answer finds the tests that were passed by itself, in whatever order they stand.
use native.Mathlib.Omega.{arith}
use Rattle.manual.specs.Answers.{first_that_applies}
use Rattle.reporting.proofs.tests.tick_tests.Goals as goal

pub returns-then-given-gt-LONGEST_TICK : goal.returns-then-given-gt-LONGEST_TICK
unfolding first_that_applies
returns-then-given-gt-LONGEST_TICK c = grind arith

pub returns-then-wrong_frame : goal.returns-then-wrong_frame
unfolding first_that_applies
returns-then-wrong_frame c = grind arith

pub returns-else-wrong_frame : goal.returns-else-wrong_frame
unfolding first_that_applies
returns-else-wrong_frame c = grind arith
