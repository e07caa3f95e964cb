-- `put_failed` meets its contract.
use borrow.Author.Tests.{eq-eqb, ne_eqb}
use Rattle.page_text.proofs.PageLaws.{adds_none}
use Rattle.page_rows.proofs.put_failed.Goals as goal

pub returns-then-paint_number-eq1 : goal.returns-then-paint_number-eq1
returns-then-paint_number-eq1 c =
    rw (← c.paint_number.ensures, eq-eqb _ _ c.if-paint_number-eq1.true) c.failed_row.ensures

pub returns-else-paint_number-eq1 : goal.returns-else-paint_number-eq1
returns-else-paint_number-eq1 c =
    rw (← c.paint_number.ensures, ne_eqb _ _ c.if-paint_number-eq1.false) adds_none
