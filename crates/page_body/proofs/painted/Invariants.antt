-- `painted` meets its contract.
use Rattle.page_rows.specs.Rows.{paint_number, is_painted}
use Rattle.untested.specs.Page.{holding}
use Rattle.manual.specs.Words.{count_below}
use Prim.Native.Nat.{◌-◌, ◌≤◌}
use mathlib.Core.Path.{◌≡◌}
use Rattle.page_body.proofs.painted.Given as goal

abbrev pub invariant-loop-event : goal.invariant-loop-event
invariant-loop-event l = (l.event ≤ l.n) ×
    (l.number ≡ count_below l.event (λ e. is_painted l.cfg (holding l.records l.board) e (paint_number l.paint)))

abbrev pub decreases-loop-event : goal.decreases-loop-event
decreases-loop-event l = l.n - l.event
