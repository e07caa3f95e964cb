-- `cycles_head_end` meets its contract.
use native.Mathlib.Omega.{arith}
use Rattle.page_text.specs.Text.{text}
use Rattle.page_text.proofs.PageLaws.{adds_most, ◌and_then◌}
use Rattle.page_body.specs.Body.{cycles_head_end}
use Rattle.page_body.proofs.cycles_head_end.Goals as goal

pub returns : goal.returns
unfolding cycles_head_end text
returns c = adds_most (omega arith) (c.put.ensures and_then c.put-2.ensures and_then c.put-3.ensures and_then c.put-4.ensures)
