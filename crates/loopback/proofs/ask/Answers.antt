-- `ask` meets its contract.
use mathlib.Core.Path.{refl}
use Rattle.transport.specs.Exchange.{offered}
use Rattle.loopback.proofs.ask.Goals.{in-Some, in-None}
use Rattle.loopback.proofs.ask.Goals as goal

pub returns : goal.returns
unfolding offered
returns c =
    elim c.match-next.branch [
      | in-Some w ↦ rw (← c.next.ensures, w.in-Some.is, w.line-is) refl
      | in-None w ↦ rw (← c.next.ensures, w.in-None.is, w.line-is) refl
    ]
