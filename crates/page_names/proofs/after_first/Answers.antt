-- `after_first` meets its contract.
use Rattle.page_names.specs.Utf8.{after_first}
use Rattle.page_names.proofs.after_first.Goals as goal

pub returns-then-within : goal.returns-then-within
unfolding after_first
returns-then-within c = rw (← c.within.ensures, c.if-within.true) c.awaits.ensures

pub returns-then-within-2 : goal.returns-then-within-2
unfolding after_first
returns-then-within-2 c =
    rw (
      ← c.within.ensures,
      c.if-within.false,
      ← c.within-2.ensures,
      c.if-within-2.true,
    ) c.awaits-then-within-2.ensures

pub returns : goal.returns
unfolding after_first
returns c =
    rw (
      ← c.within.ensures,
      c.if-within.false,
      ← c.within-2.ensures,
      c.if-within-2.false,
    ) c.after_long.ensures
