use mathlib.Core.Path.{◌≡◌, sym}
use native.Mathlib.Omega.{arith}
use Rattle.manual.specs.Untested.{is_grey}
use Rattle.manual.proofs.ConfigurationLaws.{config_tells}
use Rattle.manual.proofs.BelowLaws.{count_none, count_more, count_most}
use Rattle.manual.proofs.UntestedLaws.{grey_number}
use Rattle.untested.specs.Page.{holding}
use Rattle.untested.proofs.PageLaws.{event_within}
use Rattle.untested.proofs.number_grey.Goals as goal

pub events-n-requires : goal.events-n-requires
events-n-requires c = tt

pub loop-event-init : goal.loop-event-init
loop-event-init c = (omega arith, sym (count_none _))

pub is_grey-requires : goal.is_grey-requires
is_grey-requires c =
    event_within _ _ c.requires _
    (rw c.events-n.ensures at c.loop-event-test.true)

pub one_more_if-number-requires : goal.one_more_if-number-requires
one_more_if-number-requires c =
    let a = c.args in
    let t = config_tells _ c.requires.accepted in
    let grey = is_grey a.cfg.now (holding a.records.now a.board) in
    let most = count_most grey c.loop-event.event in
    omega (arith, c.events-n.ensures, c.loop-event.invariant.1)

pub loop-event-preserved : goal.loop-event-preserved
loop-event-preserved c = (
  omega arith,
  rw (count_more, ← c.is_grey.ensures, ← c.loop-event.invariant.1) c.one_more_if-number.ensures,
)

pub returns : goal.returns
returns c =
    let e : c.loop-event.event ≡ c.events-n.result = omega arith in
    rw (grey_number, ← c.events-n.ensures, ← e) c.loop-event.invariant.1
