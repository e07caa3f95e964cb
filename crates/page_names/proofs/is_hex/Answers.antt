-- `is_hex` meets its contract.
use Rattle.page_names.proofs.is_hex.Goals as goal

pub returns : goal.returns
returns c = rw (c.within.ensures, c.within-2.ensures, c.within-3.ensures)
