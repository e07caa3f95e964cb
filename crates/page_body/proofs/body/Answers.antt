-- `body` meets its contract.
use Rattle.page_text.proofs.PageLaws.{◌and_then◌}
use Rattle.page_body.specs.Body.{body}
use Rattle.page_body.proofs.body.Goals as goal

pub returns : goal.returns
unfolding body
returns c = c.upper.ensures and_then c.lower.ensures
