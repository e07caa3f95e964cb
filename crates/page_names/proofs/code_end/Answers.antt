-- `code_end` meets its contract.
use Rattle.page_names.proofs.NamesLaws.{ends_past, ends_behind_h, ends_without_h}
use Rattle.page_names.proofs.code_end.Goals as goal

pub returns-then-line-digits : goal.returns-then-line-digits
returns-then-line-digits c = ends_past _ _ c.digits_in-digits.ensures c.if-line-digits.true

pub returns-then-line-digits-eq104 : goal.returns-then-line-digits-eq104
returns-then-line-digits-eq104 c = ends_behind_h _ _ c.digits_in-digits.ensures c.if-line-digits-eq104.true

pub returns : goal.returns
returns c = ends_without_h _ _ c.digits_in-digits.ensures c.if-line-digits-eq104.false
