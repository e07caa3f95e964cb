use mathlib.Core.Path.{◌≡◌}
use lib.ListN.{length}
use Rattle.replay_cases.proofs.turns.Given as goal

abbrev pub invariant-loop-turn : goal.invariant-loop-turn
invariant-loop-turn l = length l.state.records.now ≡ length l.initial.state.records.now
