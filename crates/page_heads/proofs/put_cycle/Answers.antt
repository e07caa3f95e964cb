-- `put_cycle` meets its contract.
use native.Mathlib.Omega.{arith}
use Rattle.page_text.specs.Text.{text}
use Rattle.page_text.proofs.PageLaws.{◌and_then◌, adds_most}
use Rattle.page_heads.specs.Heads.{cycle_head}
use Rattle.page_heads.proofs.put_cycle.Goals as goal

pub returns : goal.returns
unfolding cycle_head text
returns c =
    adds_most (omega arith)
    (c.put.ensures
    and_then c.put_decimal.ensures
    and_then c.put_if.ensures
    and_then c.put_if-2.ensures
    and_then c.put-2.ensures)
