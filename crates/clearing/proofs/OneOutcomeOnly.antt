-- The statement of `clear` allows one outcome only: one result, and of each block and of the counts one content, to the
-- last byte.
use mathlib.Core.Path.{◌≡◌}
use mathlib.Core.List.{List, []}
use Prim.Native.Nat.{ℕ}
use Rattle.std.specs.Prelude.{Result, ⊤}
use Rattle.manual.specs.declared.Refusal.{Refusal}
use Rattle.manual.specs.Configuration.{Configuration}
use Rattle.manual.specs.State.{State}
use Rattle.manual.specs.Answers.{lent_counts, of_answer, leaves}
use Rattle.manual.specs.Calls.{clear_code}
use Rattle.manual.proofs.OneOutcomeOnly.{same_answer_and_board, same_blocks, same_counts}

pub one_clear : (cfg : Configuration) (code : ℕ) (before : List ℕ) (s : State) (r r' : Result ⊤ Refusal)
    (left left' : State) (counts counts' : List ℕ)
    → leaves (of_answer r) [] (lent_counts counts) left ≡ clear_code cfg code (lent_counts before) s
    → leaves (of_answer r') [] (lent_counts counts') left' ≡ clear_code cfg code (lent_counts before) s
    → ((r ≡ r') × (left.board ≡ left'.board)) × ((counts ≡ counts')
    × ((left.records ≡ left'.records) × ((left.debounce ≡ left'.debounce) × (left.memory ≡ left'.memory))))
one_clear cfg code before s r r' left left' counts counts' p q =
    (same_answer_and_board r r' p q, (same_counts p q, same_blocks p q))
