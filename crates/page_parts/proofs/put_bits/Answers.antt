-- `put_bits` meets its contract.
use native.Mathlib.Omega.{arith}
use Rattle.page_text.specs.Text.{text}
use Rattle.page_text.proofs.PageLaws.{◌and_then◌, adds_most}
use Rattle.page_parts.specs.Signals.{bits}
use Rattle.page_parts.proofs.put_bits.Goals as goal

pub returns : goal.returns
unfolding bits text
returns c =
    adds_most (omega arith)
    (c.put.ensures
    and_then c.put_hex_byte.ensures
    and_then c.put_if.ensures
    and_then c.put_low_names.ensures
    and_then c.put_high_names.ensures
    and_then c.put-2.ensures)
