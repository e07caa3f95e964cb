-- Whether a cycle runs, by comparing its number with each of the four.
use mathlib.Core.Path.{◌≡◌, refl}
use mathlib.Core.Bool.{Bool, true, false, ◌&&◌, ◌||◌}
use mathlib.Core.List.{List, [], ◌∷◌}
use Prim.Native.Nat.{ℕ, zero, suc}
use native.Mathlib.Omega.{arith}
use lib.Dec.{eqb}
use lib.ListN.{length, get_or}
use borrow.Author.Tests.{ne_eqb}
use Rattle.history.proofs.WordsLaws.{and_true, and_false}

or_false : (a : Bool) → a || false ≡ a
or_false true = refl
or_false false = refl

-- of four cycles
abbrev one_of : Bool → Bool → Bool → Bool → ℕ → Bool
one_of p q r s k = (((p && eqb k 0) || (q && eqb k 1)) || (r && eqb k 2)) || (s && eqb k 3)

of_four : (p q r s : Bool) (k : ℕ) → one_of p q r s k ≡ get_or (p ∷ q ∷ r ∷ s ∷ []) k false
of_four p q r s zero = simp (and_true, and_false, or_false)
of_four p q r s (suc zero) = simp (and_true, and_false, or_false)
of_four p q r s (suc (suc zero)) = simp (and_true, and_false, or_false)
of_four p q r s (suc (suc (suc zero))) = simp (and_true, and_false, or_false)
of_four p q r s (suc (suc (suc (suc k)))) =
    let n = suc (suc (suc (suc k))) in
    simp (
      ne_eqb n 0 (λ e. omega arith),
      ne_eqb n 1 (λ e. omega arith),
      ne_eqb n 2 (λ e. omega arith),
      ne_eqb n 3 (λ e. omega arith),
      and_false,
    )

pub runs_is : (l : List Bool) → length l ≡ 4 → (k : ℕ)
    → one_of (get_or l 0 false) (get_or l 1 false) (get_or l 2 false) (get_or l 3 false) k ≡ get_or l k false
runs_is [] h k = absurd (omega arith)
runs_is (p ∷ []) h k = absurd (omega arith)
runs_is (p ∷ q ∷ []) h k = absurd (omega arith)
runs_is (p ∷ q ∷ r ∷ []) h k = absurd (omega arith)
runs_is (p ∷ q ∷ r ∷ s ∷ []) h k = of_four p q r s k
runs_is (p ∷ q ∷ r ∷ s ∷ t ∷ l) h k = absurd (omega arith)
