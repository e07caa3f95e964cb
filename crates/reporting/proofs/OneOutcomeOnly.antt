-- The statements of `report` and `tick` allow one outcome only: one answer, one board, and of each block and of the
-- counts one content, to the last byte.
use mathlib.Core.Path.{◌≡◌}
use mathlib.Core.List.{List, []}
use Prim.Native.Nat.{ℕ}
use lib.IntN.{ℤ}
use Rattle.std.specs.Prelude.{Result, ⊤}
use Rattle.manual.specs.declared.Board.{Board}
use Rattle.manual.specs.declared.Refusal.{Refusal}
use Rattle.manual.specs.declared.Verdict.{Verdict}
use Rattle.manual.specs.Configuration.{Configuration}
use Rattle.manual.specs.State.{State, lent}
use Rattle.manual.specs.Answers.{lent_counts, of_answer, of_report, leaves}
use Rattle.manual.specs.Calls.{report, tick}
use Rattle.manual.proofs.OneOutcomeOnly.{same_answer, same_report, same_board, same_blocks, same_counts}

module _ (cfg : Configuration) (frame before : List ℕ) (s : State) (records records' : List ℕ)
    (debounce debounce' : List ℤ) (memory memory' : List ℕ) (board board' : Board) (counts counts' : List ℕ) where
  pub one_report : (e code present : ℕ) (r r' : Result Verdict Refusal)
      → leaves (of_report r) [] (lent_counts counts) (lent records debounce memory board)
      ≡ report cfg e code frame present (lent_counts before) s
      → leaves (of_report r') [] (lent_counts counts') (lent records' debounce' memory' board')
      ≡ report cfg e code frame present (lent_counts before) s
      → ((r ≡ r') × (board ≡ board'))
      × ((counts ≡ counts') × ((records ≡ records') × ((debounce ≡ debounce') × (memory ≡ memory'))))
  one_report e code present r r' p q = (
    (same_report r r' p q, same_board p q),
    (same_counts p q, same_blocks p q),
  )

  pub one_tick : (ms present : ℕ) (r r' : Result ⊤ Refusal)
      → leaves (of_answer r) [] (lent_counts counts) (lent records debounce memory board)
      ≡ tick cfg ms frame present (lent_counts before) s
      → leaves (of_answer r') [] (lent_counts counts') (lent records' debounce' memory' board')
      ≡ tick cfg ms frame present (lent_counts before) s
      → ((r ≡ r') × (board ≡ board'))
      × ((counts ≡ counts') × ((records ≡ records') × ((debounce ≡ debounce') × (memory ≡ memory'))))
  one_tick ms present r r' p q = (
    (same_answer r r' p q, same_board p q),
    (same_counts p q, same_blocks p q),
  )
