use native.Mathlib.Omega.{arith}
use Rattle.diagnostics.proofs.RequestLaws.{serves_19, serves_14, serves_no_other, asks_14, asks_none}
use Rattle.diagnostics.proofs.serve.Goals as goal

pub returns-in-25 : goal.returns-in-25
returns-in-25 c =
    let a = c.args in
    let byte_of = c.byte_of-service in (
      λ b. serves_19 _ _ a.room.now _ byte_of.ensures c.in-25.is (c.reply_19.ensures b),
      asks_none a.cfg.now a.request.now byte_of.ensures
          (λ e. let z : ⊥ = omega (arith, e, c.in-25.is) in z),
    )

pub returns-in-20 : goal.returns-in-20
returns-in-20 c =
    let a = c.args in
    let byte_of = c.byte_of-service in
    let reply-14 = c.reply_14 in (
      λ b. serves_14 _ _ _ _ byte_of.ensures c.in-20.is (reply-14.ensures.0 _),
      asks_14 a.cfg.now a.request.now byte_of.ensures c.in-20.is reply-14.ensures.1,
    )

pub returns-in_default : goal.returns-in_default
returns-in_default c =
    let a = c.args in
    let byte_of = c.byte_of-service in (
      λ b. serves_no_other _ _ _ _ byte_of.ensures c.in_default.in_default-own.rest.0.1 c.in_default.in_default-own.rest.1
          (c.negative.ensures _ _),
      asks_none a.cfg.now a.request.now byte_of.ensures c.in_default.in_default-own.rest.1,
    )
