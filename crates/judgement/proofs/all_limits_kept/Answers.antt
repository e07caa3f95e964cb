use mathlib.Core.Path.{◌≡◌, sym}
use native.Mathlib.Omega.{arith}
use Rattle.config.proofs.Tests.{all_none, all_more}
use Rattle.judgement.proofs.all_limits_kept.Goals as goal

pub loop-event-init : goal.loop-event-init
loop-event-init c = (omega arith, sym (all_none _))

pub limits_kept-ok-requires : goal.limits_kept-ok-requires
limits_kept-ok-requires c =
    let rows = c.requires.0 in (
      record { event_inside = omega (arith, rows.most); within = omega (arith, rows.within) },
      omega (arith, c.requires.1),
    )

pub loop-event-preserved : goal.loop-event-preserved
loop-event-preserved c = (omega arith, rw (all_more, c.loop-event.invariant.1, c.limits_kept-ok.ensures))

pub returns : goal.returns
returns c =
    let e : c.loop-event.event ≡ c.args.n = omega arith in
    rw (c.loop-event.invariant.1, e)
