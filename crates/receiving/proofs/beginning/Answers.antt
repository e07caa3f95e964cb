-- `beginning` meets its contract.
use native.Mathlib.Omega.{arith}
use mathlib.Core.Path.{sym, ◌∙◌}
use lib.ListN.{length}
use Rattle.transport.specs.Receiving.{beginning}
use Rattle.receiving.proofs.TakesLaws.{single_tells, first_tells}
use Rattle.receiving.proofs.beginning.Goals as goal

pub store-requires : goal.store-requires
store-requires c =
    let a = c.args in
    let t = single_tells (length a.room.now) a.frame (sym c.takes_single.ensures
    ∙ c.if-takes_single.true) in
    omega (arith, t.0, t.1)

pub returns-then-takes_single : goal.returns-then-takes_single
unfolding beginning
returns-then-takes_single c =
    simp (
      c.store.ensures,
      ← c.takes_single.ensures,
      c.if-takes_single.true,
    )

pub store-requires-then-takes_first : goal.store-requires-then-takes_first
store-requires-then-takes_first c =
    let a = c.args in
    let t = first_tells (length a.room.now) a.frame (sym c.takes_first.ensures
    ∙ c.if-takes_first.true) in
    omega (arith, t)

pub returns-then-takes_first : goal.returns-then-takes_first
unfolding beginning
returns-then-takes_first c =
    simp (
      c.control.ensures,
      c.announced.ensures,
      c.store-then-takes_first.ensures,
      ← c.takes_single.ensures,
      c.if-takes_single.false,
      ← c.takes_first.ensures,
      c.if-takes_first.true,
    )

pub returns : goal.returns
unfolding beginning
returns c =
    simp (
      ← c.takes_single.ensures,
      c.if-takes_single.false,
      ← c.takes_first.ensures,
      c.if-takes_first.false,
    )
