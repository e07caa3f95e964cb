-- The counter in 64 bits, where it has its room on both sides of 0.
use mathlib.Core.Path.{◌≡◌, sym, subst}
use mathlib.Core.Bool.{cond}
use Prim.Native.Nat.{ℕ, zero, suc, ◌-◌, ◌*◌, ◌/◌, ◌≤◌, ◌<◌, ◌^◌}
use native.Mathlib.Omega.{arith}
use native.Mathlib.Nat.{mul-le-mul, div-le_self}
use lib.Dec.{eqb, lit≤}
use lib.IntN.{ℤ, pos, neg_ℤ, nat_abs}
use lib.Signed.{mag, nat_abs-le}
use mir.Syntax.{w64}
use mir.Val.{SFits}
use Rattle.manual.proofs.WordsLaws.{by}

-- "|D| − 1 in place of |D|" or |D|
pub distance_most : (kind : ℕ) (d : ℤ) {r : ℕ} → mag d < 2 ^ 31 → r ≡ cond (eqb kind 2) (nat_abs d - 1) (nat_abs d)
    → r ≤ 2147483648
distance_most kind d h e =
    subst (λ (k : ℕ). k ≤ 2147483648) (sym e)
    (let most = nat_abs-le d h in by (eqb kind 2) (λ (k : ℕ). k ≤ 2147483648) (λ t. omega arith) (λ t. omega arith))

-- a part of so small a whole fits on both sides of 0
pub share_fits : (w m q : ℕ) {r : ℕ} → w ≤ 128 → m ≤ 2147483648 → r ≡ w * m / q
    → SFits w64 (pos r) × SFits w64 (neg_ℤ (pos r))
share_fits w m q {r} a b e = let most = mul-le-mul a b in let self = div-le_self (w * m) q in
    let small : r ≤ 274877906944 = omega (arith, e, most, self) in (record { sfits = omega arith }, other r small)
  where
    other : (r : ℕ) → r ≤ 274877906944 → SFits w64 (neg_ℤ (pos r))
    other zero h = record { sfits = lit≤ tt }
    other (suc n) h = record { sfits = omega arith }
