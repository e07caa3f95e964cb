-- Laws of specs/Untested.antt: where each count stands in the table, and which events are listed.
use mathlib.Core.Path.{◌≡◌, refl, sym, ap, ◌∙◌}
use mathlib.Core.Bool.{cond}
use mathlib.Core.List.{List, [], ◌∷◌, flat_map}
use Prim.Native.Nat.{ℕ, zero, suc, ◌<◌}
use native.Mathlib.Omega.{arith}
use lib.ListN.{length, get_or}
use Rattle.history.specs.StatusByte.{Bit}
use Rattle.history.proofs.StatusByteLaws.{each_bit}
use Rattle.manual.specs.Words.{count_below, join_below}
use Rattle.manual.specs.Configuration.{Configuration, events}
use Rattle.manual.specs.State.{State}
use Rattle.manual.specs.Untested.{place_in, count_of, table, is_grey, grey_events}
use Rattle.manual.proofs.RepliesLaws.{count_is, join_is}

singles : (xs : List ℕ) → flat_map (λ e. e ∷ []) xs ≡ xs
unfolding flat_map
singles [] = refl
singles (x ∷ xs) = ap (λ l. x ∷ l) (singles xs)

module _ (cfg : Configuration) (s : State) where
  pub table_length : length (table cfg s) ≡ 32
  unfolding table
  table_length = refl

  -- the table's place of a cycle and a bit holds their count
  pub count_at : (c : ℕ) → c < 4 → (b : Bit) → get_or (table cfg s) (place_in c b) 0 ≡ count_of cfg s c b
  unfolding table
  count_at zero h = each_bit _ refl refl refl refl refl refl refl refl
  count_at (suc zero) h = each_bit _ refl refl refl refl refl refl refl refl
  count_at (suc (suc zero)) h = each_bit _ refl refl refl refl refl refl refl refl
  count_at (suc (suc (suc zero))) h = each_bit _ refl refl refl refl refl refl refl refl
  count_at (suc (suc (suc (suc c)))) h = absurd (omega arith)

  -- the list event by event, and its length
  pub grey_joined : grey_events cfg s ≡ join_below (events cfg) (λ e. cond (is_grey cfg s e) (e ∷ []) [])
  unfolding grey_events
  grey_joined = sym (join_is (is_grey cfg s) (λ e. e ∷ []) (events cfg) ∙ singles _)

  pub grey_number : length (grey_events cfg s) ≡ count_below (events cfg) (is_grey cfg s)
  unfolding grey_events
  grey_number = sym (count_is (is_grey cfg s) (events cfg))
