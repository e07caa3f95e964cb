use Rattle.page_body.proofs.BodyLaws.{painted_in, painted_by}
use Rattle.page_body.specs.Body.{painted}
use Rattle.page_rows.specs.Rows.{paint_number, is_painted}
use Rattle.untested.specs.Page.{holding}
use Rattle.untested.proofs.PageLaws.{event_within}
use Rattle.manual.proofs.BelowLaws.{count_none, count_more, count_most}
use Rattle.manual.proofs.ConfigurationLaws.{config_tells}
use native.Mathlib.Omega.{arith}
use mathlib.Core.Path.{◌≡◌, sym, ◌∙◌}
use Rattle.page_body.proofs.painted.Goals as goal

pub events-n-requires : goal.events-n-requires
events-n-requires c = tt

pub loop-event-init : goal.loop-event-init
loop-event-init c = (omega arith, sym (count_none _))

pub paint_of-own-requires : goal.paint_of-own-requires
paint_of-own-requires c =
    event_within _ _ c.requires _
    (rw c.events-n.ensures at c.loop-event-test.true)

pub paint_number-requires : goal.paint_number-requires
paint_number-requires c = tt

pub one_more_if-number-requires : goal.one_more_if-number-requires
one_more_if-number-requires c =
    let t = config_tells _ c.requires.accepted in
    let most = count_most (λ e. is_painted c.args.cfg.now (holding
    c.args.records.now c.args.board) e (paint_number c.args.paint)) c.loop-event.event in
    omega (
      arith,
      c.events-n.ensures,
      c.loop-event.invariant.1,
      c.loop-event-test.true,
    )

pub loop-event-preserved : goal.loop-event-preserved
loop-event-preserved c = (
  omega arith,
  rw (
    count_more,
    ← c.loop-event.invariant.1,
    ← c.paint_of-own.ensures,
    ← c.paint_number.ensures,
    ← c.paint_number-in-loop-event.ensures,
  ) c.one_more_if-number.ensures,
)

pub overflow_cast-result : goal.overflow_cast-result
overflow_cast-result c =
    let a = c.args in
    let t = config_tells _ c.requires.accepted in
    let most = count_most (λ e. is_painted a.cfg.now (holding a.records.now a.board) e (paint_number a.paint))
    c.loop-event.event in
    record {
      fits = omega (
        arith,
        c.events-n.ensures,
        c.loop-event.invariant.0,
        c.loop-event.invariant.1,
        most,
        t.n_most,
      );
    }

pub returns : goal.returns
returns c =
    let e : c.loop-event.event ≡ c.events-n.result = omega arith in
    let is : c.loop-event.number ≡ painted c.args.cfg.now (holding c.args.records.now c.args.board) (paint_number c.args.paint) = painted_by _ _ _ _ _ _ (e ∙ c.events-n.ensures) c.loop-event.invariant.1 in
    λ d m. is ∙ painted_in c.args.cfg.now c.args.records.now c.args.board (paint_number c.args.paint) d m
