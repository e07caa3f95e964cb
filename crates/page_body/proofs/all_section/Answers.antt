-- `all_section` meets its contract.
use native.Mathlib.Omega.{arith}
use Rattle.page_text.specs.Text.{text}
use Rattle.page_text.proofs.PageLaws.{adds_most, ◌and_then◌}
use Rattle.page_body.specs.Body.{table_end, all_section}
use Rattle.page_body.proofs.all_section.Goals as goal

pub returns : goal.returns
unfolding table_end all_section text
returns c = adds_most (omega arith) (c.all_head.ensures and_then c.rows.ensures and_then c.put.ensures)
