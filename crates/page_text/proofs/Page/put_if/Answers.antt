-- `put_if` meets its contract.
use Rattle.page_text.proofs.PageLaws.{adds_none}
use Rattle.page_text.proofs.Page.put_if.Goals as goal

pub returns-else-test : goal.returns-else-test
returns-else-test c = rw c.if-test.false adds_none
