-- `lower` meets its contract.
use native.Mathlib.Omega.{arith}
use Rattle.page_text.proofs.PageLaws.{adds_most, ◌and_then◌}
use Rattle.page_body.specs.Body.{lower}
use Rattle.page_body.proofs.lower.Goals as goal

pub returns : goal.returns
unfolding lower
returns c = adds_most (omega arith) (c.cycles_part.ensures and_then c.all_section.ensures and_then c.memory_part.ensures and_then c.log_part.ensures)
