-- Laws of signed numbers: how far from 0 they lie, what lies on the other side of 0, and that 32 bits hold a small one
-- unchanged.
use mathlib.Core.Path.{◌≡◌, refl, sym, ap, ◌∙◌}
use mathlib.Core.Logic.{◌≢◌}
use mathlib.Core.Bool.{Bool, true, false, cond}
use Prim.Native.Nat.{ℕ, ◌+◌, ◌^◌, ◌≤◌, ◌<◌}
use native.Mathlib.Omega.{arith}
use lib.Dec.{eqb}
use lib.IntN.{ℤ, pos, negsuc, nat_abs, neg_ℤ, neg_ℤ-neg_ℤ, ◌+ℤ◌, ◌-ℤ◌}
use lib.Signed.{mag, le_z}
use mir.Syntax.{w32}
use mir.Val.{SFits, to_z, of_z}
use mir.Facts.{to_z-of_z}
use borrow.Author.Tests.{eq-eqb, ne_eqb, eqb-true}
use Rattle.std.specs.Prelude.{int_lt}
use Rattle.std.specs.Int.{int_min, int_max}
use Rattle.manual.specs.Words.{eq_z, between, smaller, larger}
use Rattle.manual.proofs.WordsLaws.{by, eq_z_true, between_from, between_to}
use Rattle.manual.proofs.SignedLaws.{over, under, signed, add_is, neg_is, minus_is}

-- ---- how far from 0

pub abs_is : (z : ℤ) → nat_abs z ≡ over z + under z
abs_is (pos n) = omega arith
abs_is (negsuc n) = omega arith

balanced : (z : ℤ) (m n : ℕ) → over z + m ≡ n + under z → nat_abs z ≤ m + n
balanced (pos k) m n e = omega arith
balanced (negsuc k) m n e = omega arith

pub abs_add : (a b : ℤ) → nat_abs (a +ℤ b) ≤ nat_abs a + nat_abs b
abs_add a b =
    let s : over (a +ℤ b) + (under a + under b) ≡ over a + over b + under (a +ℤ b) = omega (arith, add_is a b) in
    omega (arith, balanced (a +ℤ b) (under a + under b) (over a + over b) s, abs_is a, abs_is b)

pub abs_neg : (z : ℤ) → nat_abs (neg_ℤ z) ≡ nat_abs z
abs_neg z = omega (arith, abs_is z, abs_is (neg_ℤ z), neg_is z)

pub abs_sub : (a b : ℤ) → nat_abs (a -ℤ b) ≤ nat_abs a + nat_abs b
abs_sub a b = omega (arith, abs_add a (neg_ℤ b), abs_neg b)

pub abs_smaller : (a b : ℤ) → nat_abs (smaller a b) ≤ nat_abs a + nat_abs b
unfolding smaller
abs_smaller a b = by (le_z a b) (λ z. nat_abs z ≤ nat_abs a + nat_abs b) (λ t. omega arith) (λ t. omega arith)

-- the library's min and max are the manual's
pub smaller_is : (a b : ℤ) → int_min a b ≡ smaller a b
unfolding smaller
smaller_is a b =
    by (le_z a b) (λ z. int_min a b ≡ z)
    (λ t. by (int_lt b a) (λ z. z ≡ a) (λ u. omega signed) (λ u. refl))
    (λ t. by (int_lt b a) (λ z. z ≡ b) (λ u. refl) (λ u. omega signed))

pub larger_is : (a b : ℤ) → int_max a b ≡ larger a b
unfolding larger
larger_is a b =
    by (le_z a b) (λ z. int_max a b ≡ z)
    (λ t. by (int_lt b a) (λ z. z ≡ b) (λ u. omega signed) (λ u. refl))
    (λ t. by (int_lt b a) (λ z. z ≡ a) (λ u. refl) (λ u. omega signed))

-- "start from D, or from 0 if …"
pub abs_start : (b : Bool) (d : ℤ) → nat_abs (cond b (pos 0) d) ≤ nat_abs d
abs_start b d = by b (λ z. nat_abs z ≤ nat_abs d) (λ t. omega arith) (λ t. omega arith)

abs_between : (lo hi z : ℤ) (k : ℕ) → nat_abs lo ≤ k → nat_abs hi ≤ k → between lo hi z ≡ true → nat_abs z ≤ k
abs_between lo hi (pos n) k h g t = let p = between_to lo hi (pos n) t in omega (signed, abs_is hi)
abs_between lo hi (negsuc n) k h g t = let p = between_from lo hi (negsuc n) t in omega (signed, abs_is lo)

abs_zero : (z : ℤ) (k : ℕ) → eq_z z (pos 0) ≡ true → nat_abs z ≤ k
abs_zero z k t = rw (eq_z_true z (pos 0) t) (omega arith)

-- the table's "… to …, else 0", and the same the other way round
pub between_or_zero : (b : Bool) (lo hi z : ℤ) (k : ℕ) → nat_abs lo ≤ k → nat_abs hi ≤ k
    → cond b (between lo hi z) (eq_z z (pos 0)) ≡ true → nat_abs z ≤ k
between_or_zero true lo hi z k h g t = abs_between lo hi z k h g t
between_or_zero false lo hi z k h g t = abs_zero z k t

pub zero_or_between : (b : Bool) (lo hi z : ℤ) (k : ℕ) → nat_abs lo ≤ k → nat_abs hi ≤ k
    → cond b (eq_z z (pos 0)) (between lo hi z) ≡ true → nat_abs z ≤ k
zero_or_between true lo hi z k h g t = abs_zero z k t
zero_or_between false lo hi z k h g t = abs_between lo hi z k h g t

-- ---- the other side of 0

-- the smaller of two negated is the larger of the two, negated
neg_smaller : (a b : ℤ) → neg_ℤ (smaller (neg_ℤ a) (neg_ℤ b)) ≡ larger a b
unfolding smaller larger
neg_smaller a b =
    by (le_z (neg_ℤ a) (neg_ℤ b)) (λ z. neg_ℤ z ≡ larger a b)
    (λ t. rw (neg_ℤ-neg_ℤ a) (by (le_z a b) (λ z. a ≡ z) (λ u. omega (signed, neg_is a, neg_is b)) (λ u. refl)))
    (λ t. rw (neg_ℤ-neg_ℤ b) (by (le_z a b) (λ z. b ≡ z) (λ u. refl) (λ u. omega (signed, neg_is a, neg_is b))))

-- "the larger of D−d and P−1", by the waited time
pub waited_is : (d end : ℤ) (ms : ℕ) → neg_ℤ (smaller (neg_ℤ d +ℤ pos ms) (neg_ℤ end)) ≡ larger (d -ℤ pos ms) end
waited_is d end ms =
    let e : neg_ℤ d +ℤ pos ms ≡ neg_ℤ (d -ℤ pos ms) =
    omega (signed, add_is (neg_ℤ d) (pos ms), neg_is d, neg_is (d -ℤ pos ms), minus_is d (pos ms)) in
    rw e (neg_smaller (d -ℤ pos ms) end)

pub waited_small : (d end : ℤ) (ms : ℕ) → nat_abs d ≤ 30001 → nat_abs end ≤ 30001 → ms ≤ 60000
    → nat_abs (smaller (neg_ℤ d +ℤ pos ms) (neg_ℤ end)) ≤ 200000
waited_small d end ms h k m =
    omega (arith, abs_smaller (neg_ℤ d +ℤ pos ms) (neg_ℤ end), abs_add (neg_ℤ d) (pos ms), abs_neg d, abs_neg end)

-- ---- 32 bits

pub fits : (z : ℤ) → nat_abs z ≤ 200000 → SFits w32 z
fits (pos n) h = record { sfits = omega arith }
fits (negsuc n) h = record { sfits = omega arith }

pub back : (z : ℤ) → nat_abs z ≤ 200000 → to_z w32 (of_z w32 z) ≡ z
back z h = to_z-of_z (fits z h)

-- a call's result, by what the call ensures of it
pub held : {z w : ℤ} → z ≡ w → mag z < 2 ^ 31 → to_z w32 (of_z w32 z) ≡ w
held e h = to_z-of_z {w = w32} (record { sfits = h }) ∙ e

same_self : (a : ℤ) → eq_z a a ≡ true
same_self (pos n) = eq-eqb n n refl
same_self (negsuc n) = eq-eqb n n refl

both_ways : (a b : Bool) → (a ≡ true → b ≡ true) → (b ≡ true → a ≡ true) → a ≡ b
both_ways true b f g = sym (f refl)
both_ways false true f g = g refl
both_ways false false f g = refl

-- the machine's equality compares the bits
pub bits_same : {a b : ℤ} → SFits w32 a → SFits w32 b → eqb (of_z w32 a) (of_z w32 b) ≡ eq_z a b
bits_same {a} {b} f g =
    both_ways (eqb (of_z w32 a) (of_z w32 b)) (eq_z a b)
    (λ t. let e : a ≡ b = sym (to_z-of_z f) ∙ ap (to_z w32) (eqb-true (of_z w32 a) (of_z w32 b) t)
    ∙ to_z-of_z g in rw e (same_self b))
    (λ t. eq-eqb (of_z w32 a) (of_z w32 b) (ap (of_z w32) (eq_z_true a b t)))

-- so a test of a number against a call's result says whether it is what the call ensures
pub same_is : {a b w : ℤ} → SFits w32 a → b ≡ w → mag b < 2 ^ 31 → of_z w32 a ≡ of_z w32 b → eq_z a w ≡ true
same_is {a} {b} f e h t = ap (eq_z a) (sym e) ∙ sym (bits_same f (record { sfits = h })) ∙ eq-eqb _ _ t

pub other_is : {a b w : ℤ} → SFits w32 a → b ≡ w → mag b < 2 ^ 31 → of_z w32 a ≢ of_z w32 b → eq_z a w ≡ false
other_is {a} {b} f e h n = ap (eq_z a) (sym e) ∙ sym (bits_same f (record { sfits = h })) ∙ ne_eqb _ _ n
