-- `worth_of` meets its contract.
use Rattle.page_names.specs.Names.{worth_of}
use borrow.Author.Tests.{le-leb, lt-leb}
use Rattle.page_names.proofs.worth_of.Goals as goal

pub returns-then-b-le57 : goal.returns-then-b-le57
unfolding worth_of
returns-then-b-le57 c = rw (le-leb _ _ c.if-b-le57.true)

pub returns : goal.returns
unfolding worth_of
returns c = rw (lt-leb _ _ c.if-b-le57.false)
