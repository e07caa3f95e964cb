-- `upper` meets its contract.
use native.Mathlib.Omega.{arith}
use Rattle.page_text.specs.Text.{text}
use Rattle.page_text.proofs.PageLaws.{adds_most, ◌and_then◌}
use Rattle.page_body.specs.Body.{upper, untested_section, untested_list, failed_section, failed_list, paint_section}
use Rattle.page_body.proofs.upper.Goals as goal

pub returns : goal.returns
unfolding upper untested_section untested_list failed_section failed_list paint_section text
returns c = adds_most (omega arith) (c.top.ensures and_then c.messages.ensures and_then c.paint_section.ensures and_then c.paint_section-2.ensures)
