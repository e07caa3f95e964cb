use mathlib.Core.Path.{◌≡◌, refl, ◌∙◌}
use Prim.Native.Nat.{◌<◌}
use native.Mathlib.Omega.{arith}
use Rattle.manual.specs.Configuration.{events}
use Rattle.manual.specs.Lent.{as_lent}
use Rattle.manual.specs.Calls.{tick_moves, ticks}
use Rattle.one_event.proofs.TurnsLaws.{no_turn}
use Rattle.reporting.proofs.TickLaws.{turn_ready, may_count}
use Rattle.reporting.proofs.TickLaws.{none_ticked, next_ticked, next_logged, all_ticked, all_logged}
use Rattle.reporting.proofs.one_tick.tick_events.Goals as goal

pub loop-event-init : goal.loop-event-init
loop-event-init c =
    let a = c.args in
    let given = a.given.now in
    let s = as_lent a.state.now in (
      omega arith,
      no_turn (tick_moves a.cfg.now given.present a.state.now.board)
          (ticks a.cfg.now given.ms given.frame.now) s,
      c.no_rise-rise.ensures ∙ none_ticked a.cfg.now s given.ms given.frame.now given.present,
      (refl, (refl, refl)),
    )

pub tick_event-did-requires : goal.tick_event-did-requires
tick_event-did-requires c =
    let loop = c.loop-event in
    let m = c.requires in
    let below : loop.event < events c.args.cfg.now =
    omega (arith, c.loop-event-test.true, c.events-n.ensures) in
    (turn_ready _ _ _ _ _ m loop.event below loop.invariant.1, (m.frame_fits, m.short))

pub with_event-rise-requires : goal.with_event-rise-requires
with_event-rise-requires c =
    let loop = c.loop-event in
    let below : loop.event < events c.args.cfg.now =
    omega (arith, c.loop-event-test.true, c.events-n.ensures) in
    may_count _ _ _ _ _ c.requires loop.event below _ loop.invariant.2

pub loop-event-preserved : goal.loop-event-preserved
loop-event-preserved c =
    let a = c.args in
    let given = a.given.now in
    let loop = c.loop-event in
    let event = c.tick_event-did.ensures in
    let s = as_lent a.state.now in
    let inv = loop.invariant in (
      omega arith,
      next_ticked a.cfg.now s given.ms given.frame.now given.present loop.event inv.1 event.promise,
      next_logged a.cfg.now s given.ms given.frame.now given.present loop.event inv.1 event.promise
          inv.2 c.with_event-rise.ensures,
      (
        event.loans.0 ∙ inv.3.0,
        (event.loans.1.0 ∙ inv.3.1.0, event.loans.1.1 ∙ inv.3.1.1),
      ),
    )

pub returns-clause-promise : goal.returns-clause-promise
returns-clause-promise c =
    let a = c.args in
    let given = a.given.now in
    let loop = c.loop-event in
    let all : loop.event ≡ events a.cfg.now = omega (arith, c.events-n.ensures) in
    all_ticked a.cfg.now (as_lent a.state.now) given.ms given.frame.now given.present loop.event all loop.invariant.1

pub returns-clause-rise : goal.returns-clause-rise
returns-clause-rise c =
    let a = c.args in
    let given = a.given.now in
    let loop = c.loop-event in
    let all : loop.event ≡ events a.cfg.now = omega (arith, c.events-n.ensures) in
    all_logged a.cfg.now (as_lent a.state.now) given.ms given.frame.now given.present loop.event all loop.invariant.2
