-- `put_high_names` meets its contract.
use native.Mathlib.Omega.{arith}
use Rattle.page_text.specs.Text.{text}
use Rattle.page_text.proofs.PageLaws.{◌and_then◌, adds_most}
use Rattle.page_parts.specs.Signals.{high_names}
use Rattle.page_parts.proofs.put_high_names.Goals as goal

pub returns : goal.returns
unfolding high_names text
returns c =
    adds_most (omega arith)
    (c.put_if.ensures
    and_then c.put_if-2.ensures
    and_then c.put_if-3.ensures
    and_then c.put_if-4.ensures)
