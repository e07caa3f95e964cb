use Rattle.replay_step.proofs.BeginningLaws.{turn_read, turn_unread, all_read}
use mathlib.Core.Path.{◌≡◌, refl, ◌∙◌}
use native.Mathlib.Omega.{arith}
use native.Mathlib.Numerals.{add-one}
use Rattle.replay_step.specs.Beginning.{numbers_read}
use Rattle.replay_step.proofs.read_numbers.Goals as goal

pub loop-place-init : goal.loop-place-init
unfolding numbers_read
loop-place-init c = (omega arith, refl, refl, refl)

pub read_into-requires : goal.read_into-requires
read_into-requires c =
    omega (arith, c.loop-place.invariant.1, c.loop-place-test.true, c.requires)

pub returns-in_err-next : goal.returns-in_err-next
returns-in_err-next c =
    rw c.from_residual.ensures
    (turn_unread c.args.text.now c.args.from.at c.loop-place.place _ _
    (omega (arith, c.loop-place.invariant.1, c.loop-place-test.true, c.requires)) c.loop-place.invariant.2
    c.loop-place.invariant.3 c.args.count c.loop-place-test.true _ refl
    (rw c.in_err-next.was at c.read_into.ensures))

pub overflow_step-place : goal.overflow_step-place
overflow_step-place c =
    omega (arith, c.loop-place-test.true, c.ranges.count)

pub loop-place-smaller : goal.loop-place-smaller
loop-place-smaller c = omega (arith, c.loop-place-test.true)

pub loop-place-preserved : goal.loop-place-preserved
loop-place-preserved c =
    let t =
    turn_read c.args.text.now c.args.from.at
    c.loop-place.place _ _
    (omega (
      arith,
      c.loop-place.invariant.1,
      c.loop-place-test.true,
      c.requires,
    ))
    c.loop-place.invariant.2
    c.loop-place.invariant.3 _ refl
    (rw c.in_ok-next.was at c.read_into.ensures) in (
      omega (arith, c.loop-place-test.true),
      c.read_into.auto.cfg
          ∙ c.loop-place.invariant.1,
      rw add-one t.0,
      rw add-one t.1,
    )

pub shape_of-cfg : goal.shape_of-cfg
shape_of-cfg c = c.loop-place.invariant.1

pub returns : goal.returns
returns c =
    let e : c.args.count
    ≡ c.loop-place.place = omega (arith, c.loop-place.invariant.0, c.loop-place-test.false) in rw e
    (all_read c.args.text.now c.args.from.at
    c.loop-place.place _
    (omega (arith, c.loop-place.invariant.0, c.loop-place.invariant.1, c.requires))
    c.loop-place.invariant.2 c.loop-place.invariant.3)
