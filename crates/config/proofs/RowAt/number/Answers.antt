use borrow.Author.Rules.{rules}
use Rattle.manual.specs.Configuration.{column}
use Rattle.config.proofs.RowsLaws.{numbered}
use Rattle.config.proofs.RowAt.number.Goals as goal

pub returns : goal.returns
unfolding column
returns c = rw (numbered c.args.k) (search rules)
