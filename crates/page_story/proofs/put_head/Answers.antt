-- `put_head` meets its contract.
use Rattle.page_story.specs.Page.{head}
use Rattle.page_text.proofs.PageLaws.{◌and_then◌, adds_most}
use native.Mathlib.Omega.{arith}
use Rattle.page_story.proofs.put_head.Goals as goal

pub returns : goal.returns
unfolding head
returns c =
    adds_most (omega arith)
    (c.put_meta.ensures
    and_then c.put_texts.ensures
    and_then c.put_paints.ensures
    and_then c.put_tables.ensures)
