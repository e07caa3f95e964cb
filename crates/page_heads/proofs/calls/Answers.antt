-- `calls` meets its contract.
use native.Mathlib.Omega.{arith}
use Rattle.page_text.specs.Text.{text}
use Rattle.page_text.proofs.PageLaws.{◌and_then◌, adds_most}
use Rattle.page_heads.specs.Heads.{calls}
use Rattle.page_heads.proofs.calls.Goals as goal

pub returns : goal.returns
unfolding calls text
returns c =
    adds_most (omega arith)
    (c.put.ensures
    and_then c.put_decimal.ensures
    and_then c.put-2.ensures
    and_then c.put_decimal-2.ensures
    and_then c.put-3.ensures)
