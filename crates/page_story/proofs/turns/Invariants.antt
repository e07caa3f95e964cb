-- `turns` meets its contract.
use mathlib.Core.Path.{◌≡◌}
use Prim.Native.Nat.{◌-◌, ◌≤◌}
use lib.ListN.{length}
use Rattle.manual.specs.Lent.{as_lent}
use Rattle.page_story.specs.Story.{so_far, turns}
use Rattle.page_story.proofs.turns.Given as goal

abbrev pub invariant-loop-turn : goal.invariant-loop-turn
invariant-loop-turn l =
    (length l.state.records.now ≡ length l.initial.state.records.now) ×
    (length l.line ≡ length l.initial.line) × (l._turn ≤ l._turn-end) ×
    (so_far (as_lent l.state) l.played ≡ turns l.cfg l.text l._turn (so_far (as_lent l.initial.state) l.initial.played))

abbrev pub decreases-loop-turn : goal.decreases-loop-turn
decreases-loop-turn l = l._turn-end - l._turn
