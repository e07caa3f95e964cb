-- `cycle_row` meets its contract.
use native.Mathlib.Omega.{arith}
use Rattle.page_text.specs.Text.{text}
use Rattle.page_text.proofs.PageLaws.{◌and_then◌, adds_most}
use Rattle.page_heads.specs.Heads.{cycle_row}
use Rattle.page_heads.proofs.cycle_row.Goals as goal

pub returns : goal.returns
unfolding cycle_row text
returns c =
    adds_most (omega arith)
    (c.put_cycle.ensures and_then c.put_numbers.ensures and_then c.put.ensures)
