use mathlib.Core.Path.{◌≡◌}
use native.Mathlib.Omega.{arith}
use Rattle.manual.proofs.BelowLaws.{join_none, join_more}
use Rattle.manual.proofs.ConfigurationLaws.{config_tells}
use Rattle.page_text.proofs.PageLaws.{adds_none, adds_most, ◌and_then◌}
use Rattle.page_body.specs.Body.{rows_of}
use Rattle.page_body.proofs.rows.Goals as goal

pub events-n-requires : goal.events-n-requires
events-n-requires c = tt

pub loop-event-init : goal.loop-event-init
loop-event-init c = (omega arith, rw join_none adds_none)

pub part-requires : goal.part-requires
part-requires c =
    let most = (config_tells c.args.cfg.now c.requires.0.accepted).n_most in (
      record {
        shown = c.requires.0;
        below = rw c.events-n.ensures at c.loop-event-test.true;
      },
      c.requires.1,
      omega (
        arith,
        most,
        c.loop-event.invariant.1.puts.within,
        c.loop-event.invariant.1.same_length,
        c.requires.2,
        c.events-n.ensures,
        c.loop-event-test.true,
      ),
    )

pub loop-event-preserved : goal.loop-event-preserved
loop-event-preserved c = (
  omega arith,
  rw join_more (adds_most (omega arith) (c.loop-event.invariant.1 and_then c.part.ensures)),
)

pub returns : goal.returns
unfolding rows_of
returns c =
    let e : c.loop-event.event ≡ c.events-n.result = omega arith in
    let most = (config_tells c.args.cfg.now c.requires.0.accepted).n_most in
    rw (← c.events-n.ensures, ← e) (adds_most (omega (arith, most, c.events-n.ensures)) c.loop-event.invariant.1)
