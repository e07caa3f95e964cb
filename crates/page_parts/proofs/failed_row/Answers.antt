-- `failed_row` meets its contract.
use native.Mathlib.Omega.{arith}
use Rattle.page_text.specs.Text.{text}
use Rattle.page_text.proofs.PageLaws.{◌and_then◌, adds_most}
use Rattle.page_parts.specs.Signals.{failed_row}
use Rattle.page_parts.proofs.failed_row.Goals as goal

pub returns : goal.returns
unfolding failed_row text
returns c =
    adds_most (omega arith)
    (c.put_signal.ensures and_then c.put_stored.ensures and_then c.put.ensures)
