-- `put_byte` meets its contract.
use native.Mathlib.Omega.{arith}
use Rattle.page_text.specs.Text.{text}
use Rattle.page_text.specs.Escape.{escaped_byte}
use Rattle.page_text.proofs.Page.put_byte.Goals as goal

pub returns-in-60 : goal.returns-in-60
unfolding escaped_byte text
returns-in-60 c = grind (arith, c.put.ensures)

pub returns-in-62 : goal.returns-in-62
unfolding escaped_byte text
returns-in-62 c = grind (arith, c.put-in-62.ensures)

pub returns-in-38 : goal.returns-in-38
unfolding escaped_byte text
returns-in-38 c = grind (arith, c.put-in-38.ensures)

pub returns-in-34 : goal.returns-in-34
unfolding escaped_byte text
returns-in-34 c = grind (arith, c.put-in-34.ensures)

pub returns-in-39 : goal.returns-in-39
unfolding escaped_byte text
returns-in-39 c = grind (arith, c.put-in-39.ensures)

pub returns-in_default : goal.returns-in_default
unfolding escaped_byte text
returns-in_default c = grind (arith, c.put-in_default.ensures)
