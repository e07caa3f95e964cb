use mathlib.Core.Path.{◌≡◌, sym}
use native.Mathlib.Omega.{arith}
use Rattle.config.proofs.Tests.{all_none, all_more}
use Rattle.config.proofs.rows_fit.Goals as goal

pub loop-event-init : goal.loop-event-init
loop-event-init c = (omega arith, sym (all_none _))

pub loop-event-preserved : goal.loop-event-preserved
loop-event-preserved c = (omega arith, rw (all_more, c.loop-event.invariant.1, c.fits-fit.ensures))

pub returns : goal.returns
returns c =
    let e : c.loop-event.event ≡ c.args.n = omega arith in
    rw (c.loop-event.invariant.1, e)
