-- `put_texts` meets its contract.
use Rattle.page_story.specs.Page.{text_style}
use Rattle.page_text.proofs.PageLaws.{◌and_then◌, adds_most}
use Rattle.page_text.specs.Text.{text}
use native.Mathlib.Omega.{arith}
use Rattle.page_story.proofs.put_texts.Goals as goal

pub returns : goal.returns
unfolding text_style text
returns c =
    adds_most (omega arith)
    (c.put.ensures
    and_then c.put-2.ensures
    and_then c.put-3.ensures
    and_then c.put-4.ensures
    and_then c.put-5.ensures)
