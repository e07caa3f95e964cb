-- `after` meets its contract.
use Rattle.page_names.specs.Utf8.{after}
use borrow.Author.Tests.{eq-eqb, ne_eqb}
use Rattle.page_names.proofs.after.Goals as goal

pub returns-then-a-eq0 : goal.returns-then-a-eq0
unfolding after
returns-then-a-eq0 c = rw (eq-eqb _ _ c.if-a-eq0.true) c.after_first.ensures

pub returns-then-within : goal.returns-then-within
unfolding after
returns-then-within c =
    rw (
      ne_eqb _ _ c.if-a-eq0.false,
      ← c.within.ensures,
      c.if-within.true,
    ) c.awaits.ensures

pub returns : goal.returns
unfolding after
returns c =
    rw (ne_eqb _ _ c.if-a-eq0.false, ← c.within.ensures, c.if-within.false)
    c.awaits-2.ensures
