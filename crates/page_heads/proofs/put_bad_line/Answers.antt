-- `put_bad_line` meets its contract.
use Rattle.page_heads.specs.Heads.{bad_line}
use Rattle.page_text.proofs.PageLaws.{◌and_then◌, adds_most}
use Rattle.page_text.specs.Text.{text}
use native.Mathlib.Omega.{arith}
use Rattle.page_heads.proofs.put_bad_line.Goals as goal

pub returns : goal.returns
unfolding bad_line text
returns c =
    adds_most (omega arith)
    (c.put.ensures and_then c.put_decimal.ensures and_then c.put-2.ensures)
