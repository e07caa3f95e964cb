-- `after_long` meets its contract.
use Rattle.page_names.specs.Utf8.{after_long}
use borrow.Author.Tests.{eq-eqb, ne_eqb}
use Rattle.page_names.proofs.after_long.Goals as goal

pub returns-then-b-eq224 : goal.returns-then-b-eq224
unfolding after_long
returns-then-b-eq224 c = rw (eq-eqb _ _ c.if-b-eq224.true) c.awaits.ensures

pub returns-then-b-eq237 : goal.returns-then-b-eq237
unfolding after_long
returns-then-b-eq237 c = rw (ne_eqb _ _ c.if-b-eq224.false, eq-eqb _ _ c.if-b-eq237.true) c.awaits-then-b-eq237.ensures

pub returns-then-within : goal.returns-then-within
unfolding after_long
returns-then-within c =
    rw (
      ne_eqb _ _ c.if-b-eq224.false,
      ne_eqb _ _ c.if-b-eq237.false,
      ← c.within.ensures,
      c.if-within.true,
    ) c.awaits-then-within.ensures

pub returns-then-b-eq240 : goal.returns-then-b-eq240
unfolding after_long
returns-then-b-eq240 c =
    rw (
      ne_eqb _ _ c.if-b-eq224.false,
      ne_eqb _ _ c.if-b-eq237.false,
      ← c.within.ensures,
      c.if-within.false,
      eq-eqb _ _ c.if-b-eq240.true,
    ) c.awaits-then-b-eq240.ensures

pub returns-then-b-eq244 : goal.returns-then-b-eq244
unfolding after_long
returns-then-b-eq244 c =
    rw (
      ne_eqb _ _ c.if-b-eq224.false,
      ne_eqb _ _ c.if-b-eq237.false,
      ← c.within.ensures,
      c.if-within.false,
      ne_eqb _ _ c.if-b-eq240.false,
      eq-eqb _ _ c.if-b-eq244.true,
    ) c.awaits-then-b-eq244.ensures

pub returns-then-within-2 : goal.returns-then-within-2
unfolding after_long
returns-then-within-2 c =
    rw (
      ne_eqb _ _ c.if-b-eq224.false,
      ne_eqb _ _ c.if-b-eq237.false,
      ← c.within.ensures,
      c.if-within.false,
      ne_eqb _ _ c.if-b-eq240.false,
      ne_eqb _ _ c.if-b-eq244.false,
      ← c.within-2.ensures,
      c.if-within-2.true,
    ) c.awaits-then-within-2.ensures

pub returns : goal.returns
unfolding after_long
returns c =
    rw (
      ne_eqb _ _ c.if-b-eq224.false,
      ne_eqb _ _ c.if-b-eq237.false,
      ← c.within.ensures,
      c.if-within.false,
      ne_eqb _ _ c.if-b-eq240.false,
      ne_eqb _ _ c.if-b-eq244.false,
      ← c.within-2.ensures,
      c.if-within-2.false,
    ) c.awaits-2.ensures
