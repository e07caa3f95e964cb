-- `collecting` meets its contract.
use native.Mathlib.Omega.{arith}
use mathlib.Core.Path.{sym, ◌∙◌}
use lib.ListN.{length}
use Rattle.transport.specs.Receiving.{collecting}
use Rattle.receiving.proofs.TakesLaws.{next_due, next_tells}
use Rattle.receiving.proofs.collecting.Goals as goal

pub returns-then-not-takes_next : goal.returns-then-not-takes_next
unfolding collecting
returns-then-not-takes_next c =
    simp (
      ← c.takes_next.ensures,
      c.if-not-takes_next.true,
    )

pub overflow_mul-at : goal.overflow_mul-at
overflow_mul-at c =
    let a = c.args in
    let due = sym c.takes_next.ensures ∙ c.if-not-takes_next.false in
    omega (arith, next_tells (length a.room.now) a.frame a.size a.k due)

pub overflow_sub-at : goal.overflow_sub-at
overflow_sub-at c =
    let a = c.args in
    let due = sym c.takes_next.ensures ∙ c.if-not-takes_next.false in
    omega (arith, next_tells (length a.room.now) a.frame a.size a.k due)

pub overflow_sub-size : goal.overflow_sub-size
overflow_sub-size c =
    let a = c.args in
    let due = sym c.takes_next.ensures
    ∙ c.if-not-takes_next.false in
    omega (arith, next_tells (length a.room.now) a.frame a.size a.k due)

pub store-requires : goal.store-requires
store-requires c =
    let a = c.args in
    let due = sym c.takes_next.ensures
    ∙ c.if-not-takes_next.false in
    omega (arith, next_tells (length a.room.now) a.frame a.size a.k due)

pub received-requires : goal.received-requires
received-requires c =
    let a = c.args in
    next_due (length a.room.now) a.frame a.size a.k
    (sym c.takes_next.ensures
    ∙ c.if-not-takes_next.false)

pub returns : goal.returns
unfolding collecting
returns c =
    simp (
      ← c.received.ensures,
      c.store.ensures,
      c.min.ensures,
      ← c.takes_next.ensures,
      c.if-not-takes_next.false,
    )
