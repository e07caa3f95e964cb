-- `last_answer` meets its contract.
use Rattle.page_heads.specs.Heads.{last_answer}
use Rattle.page_text.proofs.PageLaws.{adds_most}
use Rattle.page_text.specs.Text.{text}
use borrow.Author.Tests.{eq-eqb, ne_eqb}
use native.Mathlib.Omega.{arith}
use Rattle.page_heads.proofs.last_answer.Goals as goal

pub returns-then-made-eq0 : goal.returns-then-made-eq0
unfolding last_answer text
returns-then-made-eq0 c =
    rw (eq-eqb _ _ c.if-made-eq0.true) (adds_most (omega arith) c.put.ensures)

pub returns-else-made-eq0 : goal.returns-else-made-eq0
unfolding last_answer
returns-else-made-eq0 c = rw (ne_eqb _ _ c.if-made-eq0.false) c.put_answer.ensures
