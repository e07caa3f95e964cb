-- `row_tests` meets its contract: each test in turn.
-- Each answer finds the tests that were passed by itself, in whatever order they stand.
use native.Mathlib.Omega.{arith}
use Rattle.manual.specs.Answers.{first_that_applies}
use Rattle.reporting.proofs.tests.row_tests.Goals as goal

pub returns-then-pre_refused : goal.returns-then-pre_refused
unfolding first_that_applies
returns-then-pre_refused c = grind arith

pub returns-then-frame_refused : goal.returns-then-frame_refused
unfolding first_that_applies
returns-then-frame_refused c = grind arith

pub returns-then-not-running : goal.returns-then-not-running
unfolding first_that_applies
returns-then-not-running c = grind arith

pub returns-then-not-enabled : goal.returns-then-not-enabled
unfolding first_that_applies
returns-then-not-enabled c = grind arith

pub returns : goal.returns
unfolding first_that_applies
returns c = grind arith
