use mathlib.Core.Path.{◌≡◌, sym}
use native.Mathlib.Omega.{arith}
use Rattle.manual.proofs.ConfigurationLaws.{config_tells}
use Rattle.manual.proofs.BelowLaws.{count_none, count_more, count_most}
use Rattle.diagnostics.specs.Replies.{holding, asks}
use Rattle.diagnostics.proofs.number_asked.Goals as goal

pub events-n-requires : goal.events-n-requires
events-n-requires c = tt

pub loop-event-init : goal.loop-event-init
loop-event-init c = (omega arith, sym (count_none _))

pub is_asked-requires : goal.is_asked-requires
is_asked-requires c =
    let t = config_tells _ c.requires in
    omega (arith, c.events-n.ensures, c.loop-event-test.true)

pub one_more_if-number-requires : goal.one_more_if-number-requires
one_more_if-number-requires c =
    let t = config_tells _ c.requires in
    let most =
    count_most
    (asks c.args.cfg.now
    c.args.asked
    (holding c.args.state.now.records.now
    c.args.state.now.debounce.now))
    c.loop-event.event in
    omega (arith, c.events-n.ensures, c.loop-event.invariant.1)

pub loop-event-preserved : goal.loop-event-preserved
loop-event-preserved c = (
  omega arith,
  rw (
    count_more,
    ← c.is_asked.ensures,
    ← c.loop-event.invariant.1,
  )
      c.one_more_if-number.ensures,
)

pub returns : goal.returns
returns c =
    let e : c.loop-event.event ≡ c.events-n.result = omega arith in
    rw (← c.events-n.ensures, ← e) c.loop-event.invariant.1
