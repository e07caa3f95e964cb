-- Signed numbers as code holds them, in 32 bits, and what they stand for.
use mathlib.Core.Path.{◌≡◌, refl, sym, ◌∙◌}
use mathlib.Core.Bool.{Bool, true, false}
use Prim.Native.Nat.{ℕ, suc, ◌<◌, ◌-◌, ◌^◌}
use native.Mathlib.Omega.{arith}
use native.Mathlib.Nat.{lt_of_lt_of_le}
use lib.Dec.{T, eqb, lit≤}
use lib.IntN.{ℤ, pos, negsuc, nat_abs}
use lib.Signed.{mag, lt_z, non_neg}
use mir.Syntax.{w32, w64}
use mir.Val.{Fits, SFits, to_z, of_z}
use mir.Facts.{to_z-of_z}
use borrow.Author.Tests.{ltb-true, eq-eqb, ne_eqb}
use Rattle.manual.specs.Words.{between, eq_z, nat_of}
use Rattle.manual.proofs.WordsLaws.{clash, eq_z_true}

-- a number that went through a local, an argument or an answer is itself again
pub back : (z : ℤ) → mag z < 2 ^ 31 → to_z w32 (of_z w32 z) ≡ z
back z h = to_z-of_z {w = w32} (record { sfits = h })

-- ---- as a count

pub count_fits : (z : ℤ) → mag z < 2 ^ 31 → lt_z z (pos 0) ≡ false → T (non_neg z) × Fits w64 (nat_abs z)
count_fits (pos n) h t = (tt, record { fits = lt_of_lt_of_le h (lit≤ tt) })
count_fits (negsuc n) h t = clash true refl t

pub count_is : (z : ℤ) → lt_z z (pos 0) ≡ false → nat_abs z ≡ nat_of z
count_is (pos n) t = refl
count_is (negsuc n) t = clash true refl t

pub no_count : (z : ℤ) → lt_z z (pos 0) ≡ true → 0 ≡ nat_of z
no_count (pos n) t = absurd (let h = ltb-true n 0 t in let w : ⊥ = omega arith in w)
no_count (negsuc n) t = refl

-- ---- tests

-- `==` compares bits
pub count_same : (z : ℤ) (k : ℕ) → mag z < 2 ^ 31 → k < 2 ^ 31 → eqb (of_z w32 z) k ≡ eq_z z (pos k)
count_same (pos n) k h l = refl
count_same (negsuc n) k h l = ne_eqb (2 ^ 32 - suc n) k (λ e. omega arith)

pub taken_is : (z : ℤ) (k : ℕ) → mag z < 2 ^ 31 → k < 2 ^ 31 → of_z w32 z ≡ k → z ≡ pos k
taken_is z k h l e = eq_z_true z (pos k) (sym (count_same z k h l) ∙ eq-eqb (of_z w32 z) k e)

pub left_is : (z : ℤ) (k : ℕ) → mag z < 2 ^ 31 → k < 2 ^ 31 → (of_z w32 z ≡ k → ⊥) → eq_z z (pos k) ≡ false
left_is z k h l n = sym (count_same z k h l) ∙ ne_eqb (of_z w32 z) k n

pub zero_is : (z : ℤ) → mag z < 2 ^ 31 → eqb (of_z w32 z) 0 ≡ eq_z z (pos 0)
zero_is z h = count_same z 0 h (omega arith)

-- what `between` answers of a number that was read
module _ {lo hi : ℤ} (fits-lo : SFits w32 lo) (fits-hi : SFits w32 hi) (z : ℤ) (fits-z : mag z < 2 ^ 31) where
  pub between_back : {r : Bool} {x : ℤ}
      → r ≡ between (to_z w32 (of_z w32 lo)) (to_z w32 (of_z w32 hi)) (to_z w32 (of_z w32 z)) → z ≡ x → r ≡ between lo hi x
  between_back e q = rw (to_z-of_z fits-lo, to_z-of_z fits-hi, back z fits-z, q) at e
