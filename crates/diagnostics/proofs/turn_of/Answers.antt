-- Each answer finds the tests that were passed by itself, in whatever order they stand.
use borrow.Author.Rules.{rules}
use Rattle.diagnostics.proofs.RepliesLaws.{turn_13, turn_suppressed, turn_14, turn_write}
use Rattle.diagnostics.proofs.turn_of.Goals as goal

pub returns-then-wrong_length : goal.returns-then-wrong_length
returns-then-wrong_length c = search (rules, turn_13)

pub returns-then-suppressed : goal.returns-then-suppressed
returns-then-suppressed c = search (rules, turn_suppressed)

pub returns-then-too_long : goal.returns-then-too_long
returns-then-too_long c = search (rules, turn_14)

pub returns : goal.returns
returns c = search (rules, turn_write)
