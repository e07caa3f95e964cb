-- The statements of `save` and `restore` allow one outcome only: one result, and of each block or room that the call
-- may write, and of the counts, one content, to the last byte.
use mathlib.Core.Path.{◌≡◌}
use mathlib.Core.List.{List, []}
use Prim.Native.Nat.{ℕ}
use lib.IntN.{ℤ}
use Rattle.std.specs.Prelude.{Result, ⊤}
use Rattle.manual.specs.declared.Board.{Board}
use Rattle.manual.specs.declared.Refusal.{Refusal}
use Rattle.manual.specs.Configuration.{Configuration}
use Rattle.manual.specs.State.{State, lent}
use Rattle.manual.specs.Answers.{lent_room, lent_counts, of_answer, of_length, leaves}
use Rattle.manual.specs.Image.{save, restore}
use Rattle.manual.proofs.OneOutcomeOnly.{same_answer_and_board, same_length, same_blocks, same_room, same_counts}

module _ (cfg : Configuration) (s : State) where
  -- `save` is lent the state to be read only
  pub one_save : (before : List ℕ) (r r' : Result ℕ Refusal) (room room' : List ℕ)
      → leaves (of_length r) [] (lent_room room) s ≡ save cfg (lent_room before) s
      → leaves (of_length r') [] (lent_room room') s ≡ save cfg (lent_room before) s
      → (r ≡ r') × (room ≡ room')
  one_save before r r' room room' p q = (same_length r r' p q, same_room p q)

  pub one_restore : (image before : List ℕ) (r r' : Result ⊤ Refusal) (board board' : Board)
      (records records' : List ℕ) (debounce debounce' : List ℤ) (memory memory' counts counts' : List ℕ)
      → leaves (of_answer r) [] (lent_counts counts) (lent records debounce memory board)
      ≡ restore cfg image (lent_counts before) s
      → leaves (of_answer r') [] (lent_counts counts') (lent records' debounce' memory' board')
      ≡ restore cfg image (lent_counts before) s
      → ((r ≡ r') × (board ≡ board'))
      × ((counts ≡ counts') × ((records ≡ records') × ((debounce ≡ debounce') × (memory ≡ memory'))))
  one_restore image before r r' board board' records records' debounce debounce' memory memory' counts counts' p q =
      (same_answer_and_board r r' p q, (same_counts p q, same_blocks p q))
