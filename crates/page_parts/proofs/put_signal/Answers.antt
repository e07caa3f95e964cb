-- `put_signal` meets its contract.
use native.Mathlib.Omega.{arith}
use Rattle.page_text.specs.Text.{text}
use Rattle.page_text.proofs.PageLaws.{◌and_then◌, adds_most}
use Rattle.page_parts.specs.Signals.{signal}
use Rattle.page_parts.proofs.put_signal.Goals as goal

pub returns : goal.returns
unfolding signal text
returns c =
    adds_most (omega arith)
    (c.put_paint.ensures
    and_then c.put.ensures
    and_then c.put_name.ensures
    and_then c.put-2.ensures
    and_then c.put_code.ensures
    and_then c.put-3.ensures)
