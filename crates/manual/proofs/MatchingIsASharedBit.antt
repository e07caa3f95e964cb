-- A status and a mask match exactly where some bit is set in both.
use mathlib.Core.Path.{◌≡◌, refl, ap, ◌∙◌}
use mathlib.Core.Logic.{◌≢◌, ◌↔◌}
use mathlib.Core.Bool.{Bool, true, false, not}
use Prim.Native.Nat.{ℕ, zero, suc, ◌/◌, ◌≤◌}
use native.Mathlib.Nat.{le_refl}
use native.Mathlib.Omega.{arith}
use lib.Dec.{eqb}
use lib.Bits.{bit_and, and_step, and_zero_l}
use borrow.Author.Tests.{eqb-true, eqb-false, ne_eqb, not-true}
use Rattle.manual.specs.Replies.{bit_at, SharedBit, shares_bit}

shared_not_zero : (i a b : ℕ) → bit_at i a ≡ 1 → bit_at i b ≡ 1 → bit_and a b ≢ 0
unfolding bit_at
shared_not_zero zero a b p q z = let e = and_step a b in omega arith
shared_not_zero (suc i) a b p q z = shared_not_zero i (a / 2) (b / 2) p q (let e = and_step a b in omega arith)

-- the lowest bit, or one of the higher ones
not_zero_shared : (k a b : ℕ) → a ≤ k → bit_and a b ≢ 0 → SharedBit a b
unfolding bit_at
not_zero_shared zero a b h n = absurd (n (ap (λ (x : ℕ). bit_and x b) (let e : a ≡ 0 = omega arith in e) ∙ and_zero_l b))
not_zero_shared (suc k) a b h n =
    go (eqb (bit_and (a / 2) (b / 2)) 0) refl (λ m. not_zero_shared k (a / 2) (b / 2) (omega arith) m)
  where
    go : (t : Bool) → eqb (bit_and (a / 2) (b / 2)) 0 ≡ t
        → (bit_and (a / 2) (b / 2) ≢ 0 → SharedBit (a / 2) (b / 2)) → SharedBit a b
    go true t higher =
        let z : bit_and (a / 2) (b / 2) ≡ 0 = eqb-true _ _ t in
        let e = and_step a b in
        (zero, omega arith, omega arith)
    go false f higher = let (i, p, q) = higher (eqb-false _ _ f) in (suc i, p, q)

pub matches_exactly : (status mask : ℕ) → (shares_bit status mask ≡ true) ↔ SharedBit status mask
matches_exactly status mask = (
  λ t. not_zero_shared status status mask (le_refl status) (eqb-false _ _ (not-true _ t)),
  λ r. ap not (ne_eqb _ _ (shared_not_zero r.0 status mask r.1 r.2)),
)
