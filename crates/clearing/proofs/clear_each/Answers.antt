use mathlib.Core.Path.{◌≡◌, refl, ◌∙◌}
use Prim.Native.Nat.{◌<◌}
use native.Mathlib.Omega.{arith}
use Rattle.manual.specs.Configuration.{events}
use Rattle.manual.specs.OneEvent.{clears}
use Rattle.manual.specs.Calls.{covers}
use Rattle.one_event.proofs.TurnsLaws.{no_turn, next_turn}
use Rattle.clearing.proofs.ClearingLaws.{fits_at, after_all_lem}
use Rattle.clearing.proofs.clear_each.Goals as goal

pub loop-event-init : goal.loop-event-init
loop-event-init c =
    let a = c.args in (omega arith, no_turn (covers a.cfg.now a.code) (clears a.cfg.now) _, (refl, (refl, refl)))

pub clear_if_covered-requires : goal.clear_if_covered-requires
clear_if_covered-requires c =
    let loop = c.loop-event in
    let h : loop.event < events c.args.cfg.now = omega (arith, c.events-event-end.ensures) in
    fits_at _ c.args.code _ c.requires.0 c.requires.1 _ h loop.invariant.1

pub loop-event-preserved : goal.loop-event-preserved
loop-event-preserved c =
    let a = c.args in
    let loop = c.loop-event in
    let step = c.clear_if_covered.ensures in (
      omega arith,
      next_turn (covers a.cfg.now a.code) (clears a.cfg.now) loop.event _ loop.invariant.1 step.promise,
      (step.loans.0 ∙ loop.invariant.2.0, (step.loans.1.0 ∙ loop.invariant.2.1.0, step.loans.1.1 ∙ loop.invariant.2.1.1)),
    )

pub returns-clause-promise : goal.returns-clause-promise
returns-clause-promise c =
    let cfg = c.args.cfg.now in
    let e : c.loop-event.event ≡ events cfg = omega (arith, c.events-event-end.ensures) in
    after_all_lem _ _ _ e c.loop-event.invariant.1 (c.clear_overflow.ensures.promise cfg)
