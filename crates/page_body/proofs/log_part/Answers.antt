-- `log_part` meets its contract.
use native.Mathlib.Omega.{arith}
use Rattle.page_text.specs.Text.{text}
use Rattle.page_text.proofs.PageLaws.{adds_most, ◌and_then◌}
use Rattle.page_body.specs.Body.{log_part}
use Rattle.page_body.proofs.log_part.Goals as goal

pub returns : goal.returns
unfolding log_part text
returns c = adds_most (omega arith) (c.put.ensures and_then c.calls.ensures and_then c.last_answer.ensures)
