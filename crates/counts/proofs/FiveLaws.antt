-- The five counts, one by one.
use mathlib.Core.Path.{◌≡◌, refl, ap}
use mathlib.Core.Bool.{Bool, false, ◌||◌}
use mathlib.Core.List.{List, [], ◌∷◌}
use Prim.Native.Nat.{ℕ, ◌+◌, ◌≤◌}
use native.Mathlib.Omega.{arith}
use lib.Dec.{ltb}
use borrow.Author.Tests.{ltb-false}
use Rattle.std.specs.List.{list_any, zip}
use Rattle.history.specs.Words.{any_of}
use Rattle.manual.specs.declared.Rise.{Rise}
use Rattle.manual.specs.Counts.{numbers, raised, most_count, past}
use Rattle.manual.proofs.WordsLaws.{all_map, none_pass}
use Rattle.manual.proofs.CountsLaws.{AtMost}
use Rattle.counts.specs.Near.{AreFive}

-- a list of five is its five numbers
of_five : (P : List ℕ → Type 0) → ((a b c d e : ℕ) → P (a ∷ b ∷ c ∷ d ∷ e ∷ [])) → (l : List ℕ) → AreFive l → P l
of_five P f [] h = absurd (omega arith)
of_five P f (a ∷ []) h = absurd (omega arith)
of_five P f (a ∷ b ∷ []) h = absurd (omega arith)
of_five P f (a ∷ b ∷ c ∷ []) h = absurd (omega arith)
of_five P f (a ∷ b ∷ c ∷ d ∷ []) h = absurd (omega arith)
of_five P f (a ∷ b ∷ c ∷ d ∷ e ∷ []) h = f a b c d e
of_five P f (a ∷ b ∷ c ∷ d ∷ e ∷ x ∷ l) h = absurd (omega arith)

-- some of a list passes, in the library's word and in history's
pub list_any_is : (p : ℕ → Bool) (l : List ℕ) → list_any p l ≡ any_of p l
list_any_is p [] = refl
list_any_is p (x ∷ l) = ap (λ b. p x || b) (list_any_is p l)

-- a test of the sums, in pairs
pub past_paired : (rise counts : List ℕ) → list_any (λ p. ltb most_count (p.0 + p.1)) (zip rise counts) ≡ past (raised rise counts)
unfolding raised past
past_paired [] counts = refl
past_paired (x ∷ rise) [] = refl
past_paired (x ∷ rise) (k ∷ counts) = ap (λ b. ltb most_count (x + k) || b) (past_paired rise counts)

-- ---- two fives, number by number

module _ (x y : Rise) where
  abbrev sums : List ℕ
  sums =
      (x.admitted + y.admitted) ∷ (x.pushed_out + y.pushed_out) ∷ (x.aged + y.aged)
      ∷ (x.cleared + y.cleared) ∷ (x.not_stored + y.not_stored) ∷ []

  pub sums_are : sums ≡ raised (numbers x) (numbers y)
  unfolding raised
  sums_are = refl

  pub has_room : past (raised (numbers x) (numbers y)) ≡ false → AtMost most_count sums
  unfolding raised past
  has_room h =
      all_map (λ k. ltb most_count k ≡ false) (λ k. k ≤ most_count) (λ k q. omega (arith, ltb-false most_count k q)) sums
      (none_pass (λ k. ltb most_count k) sums h)
