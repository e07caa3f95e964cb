-- `signal_row` meets its contract.
use native.Mathlib.Omega.{arith}
use Rattle.page_text.specs.Text.{text}
use Rattle.page_text.proofs.PageLaws.{◌and_then◌, adds_most}
use Rattle.page_parts.specs.Signals.{signal_row}
use Rattle.page_parts.proofs.signal_row.Goals as goal

pub returns : goal.returns
unfolding signal_row text
returns c =
    adds_most (omega arith)
    (c.put_signal.ensures and_then c.put_told.ensures and_then c.put.ensures)
