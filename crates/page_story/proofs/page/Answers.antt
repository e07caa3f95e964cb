-- `page` meets its contract.
use Rattle.std.proofs.Common.{rules}
use native.Mathlib.Omega.{arith}
use Rattle.page_text.specs.Text.{text}
use Rattle.page_text.proofs.PageLaws.{adds_most, ◌and_then◌}
use Rattle.page_story.specs.Page.{page}
use Rattle.page_story.proofs.page.Goals as goal

pub returns : goal.returns
unfolding page text
returns c =
    let all = adds_most {most = 2010000} (omega arith) (c.put_head.ensures and_then c.put_rest.ensures and_then c.put.ensures) in
    let written = all.puts in
    let same = all.same_buffer in
    search (rules, written, same)
