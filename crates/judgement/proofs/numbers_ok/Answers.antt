use mathlib.Core.Path.{◌≡◌, sym}
use native.Mathlib.Omega.{arith}
use Rattle.manual.specs.Configuration.{events}
use Rattle.debounce.proofs.SmallNumbersLaws.{held}
use Rattle.config.proofs.Tests.{all_none, all_more}
use Rattle.judgement.proofs.numbers_ok.Goals as goal

pub events-event-end-requires : goal.events-event-end-requires
events-event-end-requires c = tt

pub loop-event-init : goal.loop-event-init
loop-event-init c = (omega arith, sym (all_none _))

pub read_number-d-requires : goal.read_number-d-requires
read_number-d-requires c = omega (arith, c.events-event-end.ensures, c.requires.as_long)

pub number_ok-ok-requires : goal.number_ok-ok-requires
number_ok-ok-requires c =
    record {
      accepted = c.requires.accepted;
      below = rw (← c.events-event-end.ensures) c.loop-event-test.true;
    }

pub loop-event-preserved : goal.loop-event-preserved
loop-event-preserved c = (
  omega arith,
  rw (
    all_more,
    c.loop-event.invariant.1,
    c.number_ok-ok.ensures,
    held c.read_number-d.ensures c.read_number-d.type_inv,
  ),
)

pub returns : goal.returns
returns c =
    let e : c.loop-event.event
    ≡ events c.args.cfg.now = omega (arith, c.events-event-end.ensures) in rw
    (c.loop-event.invariant.1, e)
