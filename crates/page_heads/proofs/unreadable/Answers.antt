-- `unreadable` meets its contract.
use native.Mathlib.Omega.{arith}
use Rattle.page_text.specs.Text.{text}
use Rattle.page_text.proofs.PageLaws.{◌and_then◌, adds_most}
use Rattle.page_heads.specs.Heads.{unreadable}
use Rattle.page_heads.proofs.unreadable.Goals as goal

pub returns : goal.returns
unfolding unreadable text
returns c =
    adds_most (omega arith)
    (c.put.ensures and_then c.put_decimal.ensures and_then c.put-2.ensures)
