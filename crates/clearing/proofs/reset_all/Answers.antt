use mathlib.Core.Path.{◌≡◌, refl, ap, ◌∙◌}
use Prim.Native.Nat.{ℕ, ◌<◌}
use native.Mathlib.Omega.{arith}
use Rattle.manual.specs.Words.{for_below}
use Rattle.manual.specs.Configuration.{events}
use Rattle.manual.specs.State.{lent}
use Rattle.one_event.specs.Steps.{resetting}
use Rattle.clearing.proofs.ClearAllLaws.{no_reset, next_reset}
use Rattle.clearing.proofs.reset_all.Goals as goal

pub events-n-requires : goal.events-n-requires
events-n-requires c = tt

pub loop-event-init : goal.loop-event-init
loop-event-init c = (omega arith, λ m b. no_reset _ _, refl, refl)

pub resets-requires : goal.resets-requires
resets-requires c =
    let loop = c.loop-event in
    let below : loop.event < events c.args.cfg.now =
    omega (arith, c.events-n.ensures) in
    (omega (arith, below, loop.invariant.2, c.requires.0), omega (arith, below, loop.invariant.3, c.requires.1))

pub loop-event-preserved : goal.loop-event-preserved
loop-event-preserved c =
    let loop = c.loop-event in
    let resets = c.resets in (
      omega arith,
      λ m b. next_reset _ loop.event _ (loop.invariant.1 m b) (resets.ensures _ m b),
      resets.auto.records ∙ loop.invariant.2,
      resets.auto.debounce ∙ loop.invariant.3,
    )

pub returns : goal.returns
returns c =
    let a = c.args in
    let all : c.loop-event.event ≡ events a.cfg.now = omega (arith, c.events-n.ensures) in
    λ m b. c.loop-event.invariant.1 m b
    ∙ ap (λ (k : ℕ). for_below k (resetting a.cfg.now) (lent a.records.now a.debounce.now m b)) all
