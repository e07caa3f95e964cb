-- `is_bad` meets its contract.
use Rattle.page_names.specs.Names.{is_bad}
use Rattle.page_names.proofs.is_bad.Goals as goal

pub returns : goal.returns
unfolding is_bad
returns c = rw (c.is_empty.ensures, c.is_good.ensures)
