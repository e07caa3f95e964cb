-- `kept` meets its contract.
use mathlib.Core.Path.{sym, ◌∙◌}
use borrow.Author.Tests.{eqb-true}
use Rattle.page_names.proofs.NamesLaws.{kept_none, kept_shorter, kept_whole}
use Rattle.page_names.proofs.kept.Goals as goal

pub returns-then-is_empty : goal.returns-then-is_empty
returns-then-is_empty c = kept_none _ (eqb-true _ 0 (sym c.is_empty.ensures ∙ c.if-is_empty.true))

pub returns-then-line-last-eq13 : goal.returns-then-line-last-eq13
returns-then-line-last-eq13 c = kept_shorter _ c.if-line-last-eq13.true

pub returns : goal.returns
returns c = kept_whole _ c.if-line-last-eq13.false
