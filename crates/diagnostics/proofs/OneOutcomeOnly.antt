-- The statement of a diagnostic request allows one outcome only: one result, and of each block, of the room and of the
-- counts one content, to the last byte.
use mathlib.Core.Path.{◌≡◌}
use mathlib.Core.List.{List, []}
use Prim.Native.Nat.{ℕ}
use Rattle.std.specs.Prelude.{Result}
use Rattle.manual.specs.declared.Refusal.{Refusal}
use Rattle.manual.specs.Configuration.{Configuration}
use Rattle.manual.specs.State.{State}
use Rattle.manual.specs.Answers.{Beside, lent_both, of_length, leaves}
use Rattle.manual.specs.Diagnostics.{request_reply}
use Rattle.manual.proofs.OneOutcomeOnly.{same_length, same_board, same_blocks, same_room, same_counts}

module _ (cfg : Configuration) (request : List ℕ) (before : Beside) (s : State) where
  pub one_request : (r r' : Result ℕ Refusal) (left left' : State) (room room' counts counts' : List ℕ)
      → leaves (of_length r) [] (lent_both room counts) left ≡ request_reply cfg request before s
      → leaves (of_length r') [] (lent_both room' counts') left' ≡ request_reply cfg request before s
      → ((r ≡ r') × (left.board ≡ left'.board)) ×
      (((left.records ≡ left'.records) × ((left.debounce ≡ left'.debounce) × (left.memory ≡ left'.memory)))
      × ((room ≡ room') × (counts ≡ counts')))
  one_request r r' left left' room room' counts counts' p q = (
    (same_length r r' p q, same_board p q),
    (same_blocks p q, (same_room p q, same_counts p q)),
  )
