-- The counter as the code puts it together: by the sign of D, from the numbers that were read of the row.
use mathlib.Core.Path.{◌≡◌, refl, sym, ap, ◌∙◌}
use mathlib.Core.Logic.{◌≢◌}
use mathlib.Core.Bool.{true, false, cond}
use Prim.Native.Nat.{ℕ, ◌-◌, ◌*◌, ◌/◌}
use native.Mathlib.Omega.{arith}
use lib.Dec.{eqb}
use lib.IntN.{ℤ, pos, negsuc, neg_ℤ, nat_abs}
use lib.Signed.{lt_z}
use borrow.Author.Tests.{ltb-true, eq-eqb, ne_eqb}
use Rattle.history.specs.StatusByte.{Status}
use Rattle.manual.specs.Configuration.{Configuration, kind_of, low_of, high_of}
use Rattle.manual.specs.Counter.{internal_counter, distance, debounced_counter, counter_of}
use Rattle.manual.proofs.WordsLaws.{clash}

module _ (cfg : Configuration) (e : ℕ) where
  -- the distance of a number that was read, with a kind that was read
  pub distance_is : (d : ℤ) {kind r : ℕ} → kind ≡ kind_of cfg e → r ≡ cond (eqb kind 2) (nat_abs d - 1) (nat_abs d)
      → r ≡ distance cfg e d
  distance_is d k e = e ∙ ap (λ (j : ℕ). cond (eqb j 2) (nat_abs d - 1) (nat_abs d)) k

  -- the share of it that the end that was read makes
  pub share_is : (w : ℕ) (d : ℤ) {m r : ℕ} {end end' : ℤ} → m ≡ distance cfg e d → end ≡ end' → r ≡ w * m / nat_abs end
      → r ≡ w * distance cfg e d / nat_abs end'
  share_is w d p q s = s ∙ (λ i. w * p i / nat_abs (q i))

  pub below_zero_lem : (d : ℤ) {r : ℕ} → lt_z d (pos 0) ≡ true → r ≡ 128 * distance cfg e d / nat_abs (low_of cfg e)
      → neg_ℤ (pos r) ≡ debounced_counter cfg e d
  unfolding debounced_counter
  below_zero_lem (pos n) t s = absurd (let l = ltb-true n 0 t in let w : ⊥ = omega arith in w)
  below_zero_lem (negsuc n) t s = ap (λ (k : ℕ). neg_ℤ (pos k)) s

  pub from_zero : (d : ℤ) {r : ℕ} → lt_z d (pos 0) ≡ false → r ≡ 127 * distance cfg e d / nat_abs (high_of cfg e)
      → pos r ≡ debounced_counter cfg e d
  unfolding debounced_counter
  from_zero (pos n) t s = ap pos s
  from_zero (negsuc n) t s = clash true refl t

  -- by the kind that was read
  pub internal_is : {kind : ℕ} {z : ℤ} (d : ℤ) {s s' : Status} → kind ≡ kind_of cfg e → kind ≡ 0
      → z ≡ internal_counter s → s ≡ s' → z ≡ counter_of cfg e d s'
  unfolding counter_of
  internal_is d k i q p = rw (eq-eqb _ _ (sym k ∙ i)) (q ∙ ap internal_counter p)

  pub debounced_is : {kind : ℕ} {z d d' : ℤ} (s : Status) → kind ≡ kind_of cfg e → kind ≢ 0
      → z ≡ debounced_counter cfg e d → d ≡ d' → z ≡ counter_of cfg e d' s
  unfolding counter_of
  debounced_is s k n q p = rw (ne_eqb _ _ (λ i. n (k ∙ i))) (q ∙ ap (debounced_counter cfg e) p)
