-- `is_separator` is the test of the definition.
use borrow.Author.Rules.{rules}
use Rattle.transcript.specs.Text.{is_separator}
use Rattle.transcript.proofs.is_separator.Goals as goal

pub returns : goal.returns
unfolding is_separator
returns c = search rules
