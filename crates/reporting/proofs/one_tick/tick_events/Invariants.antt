-- `tick_events` meets its contract: at each turn the events below have had their part of the tick, and it is counted.
use mathlib.Core.Path.{◌≡◌}
use Prim.Native.Nat.{◌-◌, ◌≤◌}
use Rattle.manual.specs.Lent.{as_lent, keeps_loans}
use Rattle.manual.specs.Counts.{rise_of, numbers}
use Rattle.reporting.proofs.TickLaws.{ticked_below, logged_below}
use Rattle.reporting.proofs.one_tick.tick_events.Given as goal

abbrev pub invariant-loop-event : goal.invariant-loop-event
invariant-loop-event l =
    (l.event ≤ l.n) ×
    (as_lent l.state ≡ ticked_below l.cfg (as_lent l.fn.state) l.given.ms l.given.frame.now l.given.present l.event)
    × (numbers l.rise ≡ rise_of (logged_below l.cfg (as_lent l.fn.state) l.given.ms l.given.frame.now l.given.present l.event))
    × keeps_loans l.fn.state l.state

abbrev pub decreases-loop-event : goal.decreases-loop-event
decreases-loop-event l = l.n - l.event
