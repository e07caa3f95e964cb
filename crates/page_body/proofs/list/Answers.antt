-- `list` meets its contract.
use native.Mathlib.Omega.{arith}
use Rattle.page_text.specs.Text.{text}
use Rattle.page_text.proofs.PageLaws.{adds_most, ◌and_then◌}
use Rattle.page_body.specs.Body.{table_end, list_of}
use Rattle.page_body.proofs.list.Goals as goal

pub returns : goal.returns
unfolding table_end list_of text
returns c = adds_most (omega arith) (c.put.ensures and_then c.rows.ensures and_then c.put-2.ensures)
