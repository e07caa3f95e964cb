use mathlib.Core.Path.{sym}
use borrow.Author.Tests.{eq-eqb, ne_eqb}
use Rattle.config.proofs.SearchLaws.{known_where_all, unknown_where}
use Rattle.clearing.proofs.is_unknown.Goals as goal

pub returns-then-code-eq-FOR_ALL : goal.returns-then-code-eq-FOR_ALL
returns-then-code-eq-FOR_ALL c = sym (known_where_all _ c.requires _ (eq-eqb _ _ c.if-code-eq-FOR_ALL.true))

pub returns : goal.returns
returns c =
    unknown_where _ c.args.code (ne_eqb _ _ c.if-code-eq-FOR_ALL.false) c.find_code.result c.find_code.ensures
    c.is_none.result c.is_none.ensures
