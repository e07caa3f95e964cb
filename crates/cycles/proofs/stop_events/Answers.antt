use mathlib.Core.Path.{◌≡◌, sym, ap, ◌∙◌}
use mathlib.Core.Bool.{false}
use Prim.Native.Nat.{◌<◌}
use native.Mathlib.Omega.{arith}
use Rattle.manual.specs.Configuration.{events}
use Rattle.manual.specs.State.{with_cycle}
use Rattle.manual.specs.Lent.{as_lent}
use Rattle.manual.specs.OneEvent.{stops}
use Rattle.manual.specs.Calls.{of_cycle}
use Rattle.config.proofs.PartLaws.{row_within}
use Rattle.one_event.proofs.TurnsLaws.{no_turn, next_turn, last_turn}
use Rattle.cycles.proofs.CyclesLaws.{stop_fits}
use borrow.Author.Rules.{rules}
use Rattle.cycles.proofs.stop_events.Goals as goal
use Rattle.cycles.proofs.stop_events.Goals.{then-of_cycle, else-of_cycle}

pub loop-event-init : goal.loop-event-init
loop-event-init c =
    let a = c.args in
    (search rules, (search rules, no_turn (of_cycle a.cfg.now a.cycle) (stops a.cfg.now) (as_lent a.state.now)))

pub of_cycle-requires : goal.of_cycle-requires
of_cycle-requires c =
    row_within _ _ c.requires.configured (rw (← c.events-event-end.ensures) c.loop-event-test.true)

pub stops-requires : goal.stops-requires
stops-requires c =
    let a = c.args in
    let loop = c.loop-event in
    let below : loop.event < events a.cfg.now =
    rw (← c.events-event-end.ensures) c.loop-event-test.true in
    stop_fits a.cfg.now (as_lent a.state.now) a.cycle c.requires loop.event below loop.invariant.1.1

pub loop-event-preserved : goal.loop-event-preserved
loop-event-preserved c =
    let a = c.args in
    let loop = c.loop-event in
    let own = of_cycle a.cfg.now a.cycle in
    let s = as_lent a.state.now in
    elim c.if-of_cycle.branch [
      | then-of_cycle w ↦ rw w.state-is (
        search rules,
        (
          search rules,
          next_turn own (stops a.cfg.now) loop.event s loop.invariant.1.1 (rw (sym c.of_cycle.ensures ∙ w.if-of_cycle.true) w.stops.ensures.promise),
        ),
      )
      | else-of_cycle w ↦ rw w.state-is (
        search rules,
        (
          search rules,
          next_turn own (stops a.cfg.now) loop.event s loop.invariant.1.1 (rw (sym c.of_cycle.ensures ∙ w.if-of_cycle.false)),
        ),
      )
    ]

pub returns-clause-promise : goal.returns-clause-promise
returns-clause-promise c =
    let a = c.args in
    let loop = c.loop-event in
    let all : loop.event ≡ events a.cfg.now = omega (arith, c.events-event-end.ensures) in
    ap (with_cycle a.cycle false)
    (last_turn (of_cycle a.cfg.now a.cycle) (stops a.cfg.now) a.cfg.now loop.event (as_lent a.state.now) all
    loop.invariant.1.1)
