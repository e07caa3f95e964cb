-- `paint_section` meets its contract.
use native.Mathlib.Omega.{arith}
use Rattle.page_text.proofs.PageLaws.{adds_most, ◌and_then◌}
use Rattle.page_body.specs.Body.{paint_section}
use Rattle.page_body.proofs.paint_section.Goals as goal

pub returns : goal.returns
unfolding paint_section
returns c = adds_most (omega arith) (c.put.ensures and_then c.paint_list.ensures)
