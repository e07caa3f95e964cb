-- `rows` meets its contract.
use Prim.Native.Nat.{◌*◌, ◌≤◌}
use Rattle.manual.specs.Words.{join_below}
use Rattle.manual.specs.State.{lent}
use Rattle.page_text.specs.Page.{Adds}
use Rattle.page_rows.specs.Rows.{part_of}
use Rattle.page_body.proofs.rows.Given as goal

abbrev pub invariant-loop-event : goal.invariant-loop-event
invariant-loop-event l =
    (l.event ≤ l.n)
    × Adds (join_below l.event (part_of l.listing l.cfg l.names (lent l.state.records.now l.state.debounce.now l.state.memory.now l.state.board)))
    (1300 * l.event) l.initial.page l.page
