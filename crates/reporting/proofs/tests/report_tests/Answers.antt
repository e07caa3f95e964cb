-- `report_tests` meets its contract: an event below n has a row.
-- Each answer finds the tests that were passed by itself, in whatever order they stand.
use native.Mathlib.Omega.{arith}
use borrow.Author.Tests.{le-ltb, lt-leb}
use Rattle.manual.specs.Answers.{first_that_applies}
use Rattle.manual.proofs.ConfigurationLaws.{config_tells}
use Rattle.reporting.proofs.tests.report_tests.Goals as goal

pub returns-then-event_refused : goal.returns-then-event_refused
unfolding first_that_applies
returns-then-event_refused c = grind arith

pub returns-then-code_refused : goal.returns-then-code_refused
unfolding first_that_applies
returns-then-code_refused c = grind arith

pub row_tests-requires : goal.row_tests-requires
row_tests-requires c =
    let t =
    config_tells c.args.cfg.now
    c.requires in
    omega (arith, c.events.ensures, c.if-event_refused.false)

pub returns : goal.returns
unfolding first_that_applies
returns c =
    rw (← c.events.ensures, lt-leb _ _ c.if-event_refused.false, le-ltb _ _ c.if-code_refused.false)
    c.row_tests.ensures
