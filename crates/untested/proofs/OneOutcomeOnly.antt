-- The statements of `read_table`, `read_paint` and `list_grey` allow one outcome only: one result, and of the lent
-- slice one content, to the last number. The first two are lent nothing to be written.
use mathlib.Core.Path.{◌≡◌, refl, ap}
use mathlib.Core.List.{List, []}
use Prim.Native.Nat.{ℕ}
use Rattle.std.specs.Prelude.{Result, Ok, Err}
use Rattle.manual.specs.declared.Paint.{Paint}
use Rattle.manual.specs.declared.Paint.TheVariants.{Grey}
use Rattle.manual.specs.declared.Refusal.{Refusal}
use Rattle.manual.specs.declared.Verdict.TheVariants.{None}
use Rattle.manual.specs.Configuration.{Configuration}
use Rattle.manual.specs.State.{State}
use Rattle.manual.specs.Answers.{Beside, lent_room, alone, number_of, answered, of_paint, of_length, leaves}
use Rattle.manual.specs.Untested.{list_grey, no_counts, TableRead, table_read, PaintRead, paint_read}
use Rattle.manual.proofs.OneOutcomeOnly.{answer_at, refused_back, one_outcome, same_length, same_beside}
use Rattle.untested.specs.Page.{table_told, paint_told}

module _ (cfg : Configuration) (s : State) where
  -- the answer is read off its number and its counts
  abbrev table_in : TableRead → Result (List ℕ) Refusal
  table_in t =
      answer_at (λ a. Ok t.counts) Err (answered t.outcome.answer t.outcome.verdict t.outcome.value)

  table_back : (r : Result (List ℕ) Refusal) → table_in (table_told r s) ≡ r
  table_back (Ok counts) = refl
  table_back (Err r) = refused_back (λ a. Ok no_counts) Err r (answered (number_of r) None 0) refl

  pub one_read_table : (r r' : Result (List ℕ) Refusal)
      → table_told r s ≡ table_read cfg alone s
      → table_told r' s ≡ table_read cfg alone s
      → r ≡ r'
  one_read_table r r' p q = one_outcome table_in (table_back r) (table_back r') p q

  -- the answer is read off its number and its paint
  abbrev paint_in : PaintRead → Result Paint Refusal
  paint_in p =
      answer_at (λ a. Ok p.paint) Err
      (answered p.outcome.answer p.outcome.verdict p.outcome.value)

  paint_back : (r : Result Paint Refusal) → paint_in (paint_told r s) ≡ r
  paint_back (Ok p) = refl
  paint_back (Err r) =
      refused_back (λ a. Ok Grey) Err r (of_paint (Err r)) refl

  pub one_read_paint : (event : ℕ) (r r' : Result Paint Refusal)
      → paint_told r s ≡ paint_read cfg event alone s
      → paint_told r' s ≡ paint_read cfg event alone s
      → r ≡ r'
  one_read_paint event r r' p q = one_outcome paint_in (paint_back r) (paint_back r') p q

  pub one_list_grey : (before : List ℕ) (r r' : Result ℕ Refusal) (list list' : List ℕ)
      → leaves (of_length r) [] (lent_room list) s ≡ list_grey cfg (lent_room before) s
      → leaves (of_length r') [] (lent_room list') s ≡ list_grey cfg (lent_room before) s
      → (r ≡ r') × (list ≡ list')
  one_list_grey before r r' list list' p q = (same_length r r' p q, ap (λ (b : Beside). b.room) (same_beside p q))
