use mathlib.Core.Path.{◌∙◌}
use mathlib.Core.Bool.{◌&&◌}
use native.Mathlib.Omega.{arith}
use Rattle.config.proofs.Tests.{holds_both}
use Rattle.config.proofs.SignedInCode.{taken_is, left_is}
use Rattle.config.proofs.RowAt.of_kind_ok.Goals as goal

pub returns-then-kind-eq-KIND_COUNTER : goal.returns-then-kind-eq-KIND_COUNTER
returns-then-kind-eq-KIND_COUNTER c =
    let kind = c.number-kind in
    rw (← kind.ensures, taken_is kind.result _ kind.type_inv (omega arith) c.if-kind-eq-KIND_COUNTER.true)
    c.counter_ok.ensures

pub returns-then-kind-eq-KIND_INTERNAL : goal.returns-then-kind-eq-KIND_INTERNAL
returns-then-kind-eq-KIND_INTERNAL c =
    let kind = c.number-kind in
    rw (← kind.ensures, taken_is kind.result _ kind.type_inv (omega arith) c.if-kind-eq-KIND_INTERNAL.true)
    ((λ i. c.unbounded.ensures i && c.stepless-no_steps.ensures i) ∙ holds_both _ _)

pub returns : goal.returns
returns c =
    let kind = c.number-kind in
    rw (
      ← kind.ensures,
      left_is kind.result 0 kind.type_inv (omega arith) c.if-kind-eq-KIND_INTERNAL.false,
      left_is kind.result 1 kind.type_inv (omega arith) c.if-kind-eq-KIND_COUNTER.false,
    )
    ((λ i. c.bounded.ensures i && c.stepless-no_steps.ensures i) ∙ holds_both _ _)
