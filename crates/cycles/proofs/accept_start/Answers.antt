use mathlib.Core.Path.{◌≡◌, refl, sym, ap, ◌∙◌}
use mathlib.Core.Bool.{true}
use native.Mathlib.Omega.{arith}
use Rattle.history.specs.History.{start}
use Rattle.manual.specs.Configuration.{events}
use Rattle.manual.specs.State.{lent, with_cycle}
use Rattle.manual.specs.OneEvent.{happens}
use Rattle.manual.specs.Calls.{of_cycle}
use Rattle.config.proofs.PartLaws.{row_within}
use Rattle.one_event.proofs.TurnsLaws.{no_turn, next_turn, last_turn}
use borrow.Author.Rules.{rules}
use Rattle.cycles.proofs.accept_start.Goals as goal
use Rattle.cycles.proofs.accept_start.Goals.{then-of_cycle, else-of_cycle}

pub loop-event-init : goal.loop-event-init
loop-event-init c =
    let a = c.args in (
      search rules,
      (
        λ d m b. no_turn (of_cycle a.cfg.now a.cycle) (happens a.cfg.now start) (lent a.records.now d m b),
        refl,
      ),
    )

pub of_cycle-requires : goal.of_cycle-requires
of_cycle-requires c =
    row_within _ _ c.requires.0.accepted (rw (← c.events-event-end.ensures) c.loop-event-test.true)

pub loop-event-preserved : goal.loop-event-preserved
loop-event-preserved c =
    let a = c.args in
    let loop = c.loop-event in
    let own = of_cycle a.cfg.now a.cycle in
    let one = happens a.cfg.now start in
    elim c.if-of_cycle.branch [
      | then-of_cycle w ↦ rw w.records-is (
        search rules,
        (
          λ d m b. next_turn own one loop.event (lent a.records.now d m b) (loop.invariant.1.0 d m b)
              (rw (sym c.of_cycle.ensures ∙ w.if-of_cycle.true) (w.starts.ensures a.cfg.now d m b)),
          search rules,
        ),
      )
      | else-of_cycle w ↦ rw w.records-is (
        search rules,
        (
          λ d m b. next_turn own one loop.event (lent a.records.now d m b) (loop.invariant.1.0 d m b)
              (rw (sym c.of_cycle.ensures ∙ w.if-of_cycle.false)),
          search rules,
        ),
      )
    ]

pub returns : goal.returns
returns c =
    let a = c.args in
    let loop = c.loop-event in
    let all : loop.event ≡ events a.cfg.now = omega (arith, c.events-event-end.ensures) in
    λ d m. ap (with_cycle a.cycle true)
    (last_turn (of_cycle a.cfg.now a.cycle) (happens a.cfg.now start) a.cfg.now loop.event
    (lent a.records.now d m a.board.now) all (loop.invariant.1.0 d m a.board.now))
