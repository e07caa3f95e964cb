-- `all_head` meets its contract.
use native.Mathlib.Omega.{arith}
use Rattle.page_text.specs.Text.{text}
use Rattle.page_text.proofs.PageLaws.{adds_most, ◌and_then◌}
use Rattle.page_body.specs.Body.{all_head}
use Rattle.page_body.proofs.all_head.Goals as goal

pub returns : goal.returns
unfolding all_head text
returns c = adds_most (omega arith) (c.put.ensures and_then c.put-2.ensures and_then c.put-3.ensures)
