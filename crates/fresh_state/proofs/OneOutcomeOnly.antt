-- The statement of `fresh` allows one outcome only: one result, and of each block and of the counts one content, to the
-- last byte.
use mathlib.Core.Path.{◌≡◌}
use mathlib.Core.List.{List, []}
use Prim.Native.Nat.{ℕ}
use lib.IntN.{ℤ}
use Rattle.std.specs.Prelude.{Result, ⊤}
use Rattle.manual.specs.declared.Board.{Board}
use Rattle.manual.specs.declared.Refusal.{Refusal}
use Rattle.manual.specs.Configuration.{Configuration}
use Rattle.manual.specs.State.{State, lent}
use Rattle.manual.specs.Answers.{lent_counts, of_answer, leaves}
use Rattle.manual.specs.Calls.{fresh}
use Rattle.manual.proofs.OneOutcomeOnly.{same_answer_and_board, same_blocks, same_counts}

pub one_fresh : (cfg : Configuration) (before : List ℕ) (s : State) (r r' : Result ⊤ Refusal) (board board' : Board)
    (records records' : List ℕ) (debounce debounce' : List ℤ) (memory memory' counts counts' : List ℕ)
    → leaves (of_answer r) [] (lent_counts counts) (lent records debounce memory board)
    ≡ fresh cfg (lent_counts before) s
    → leaves (of_answer r') [] (lent_counts counts') (lent records' debounce' memory' board')
    ≡ fresh cfg (lent_counts before) s
    → ((r ≡ r') × (board ≡ board'))
    × ((counts ≡ counts') × ((records ≡ records') × ((debounce ≡ debounce') × (memory ≡ memory'))))
one_fresh cfg before s r r' board board' records records' debounce debounce' memory memory' counts counts' p q =
    (same_answer_and_board r r' p q, (same_counts p q, same_blocks p q))
