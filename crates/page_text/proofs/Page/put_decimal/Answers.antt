-- `put_decimal` meets its contract.
use native.Mathlib.Omega.{arith}
use Rattle.page_text.specs.Numbers.{decimal}
use Rattle.page_text.proofs.Page.put_decimal.Goals as goal

pub returns-then-n-lt10 : goal.returns-then-n-lt10
unfolding decimal
returns-then-n-lt10 c = grind (arith, c.put.ensures, c.digit-ones.ensures)

pub returns-then-n-lt100 : goal.returns-then-n-lt100
unfolding decimal
returns-then-n-lt100 c = grind (arith, c.put-then-n-lt100.ensures, c.digit-ones.ensures, c.digit-tens.ensures)

pub returns-then-n-lt1000 : goal.returns-then-n-lt1000
unfolding decimal
returns-then-n-lt1000 c = grind (arith, c.put-then-n-lt1000.ensures, c.digit-ones.ensures, c.digit-tens.ensures, c.digit-hundreds.ensures)

pub returns-then-n-lt10000 : goal.returns-then-n-lt10000
unfolding decimal
returns-then-n-lt10000 c = grind (arith, c.put-then-n-lt10000.ensures, c.digit-ones.ensures, c.digit-tens.ensures, c.digit-hundreds.ensures, c.digit-thousands.ensures)

pub returns : goal.returns
unfolding decimal
returns c = grind (arith, c.put-2.ensures, c.digit-ones.ensures, c.digit-tens.ensures, c.digit-hundreds.ensures, c.digit-thousands.ensures, c.digit.ensures)
