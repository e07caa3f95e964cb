-- Signed numbers for `omega`, which reads only ℕ: z is over z - under z, two counts of which one is 0. Each law turns a
-- fact on signed numbers into a linear one on these counts, or back; the laws of the order are built of them.
use mathlib.Core.Path.{◌≡◌, refl, sym, ap}
use mathlib.Core.Bool.{true, false, not, not-eq-not}
use Prim.Native.Nat.{ℕ, zero, suc, ◌+◌, ◌≤◌, ◌<◌}
use native.Mathlib.Omega.{arith}
use lib.Dec.{ltb}
use lib.IntN.{ℤ, pos, negsuc, neg_ℤ, sub_ℕ, ◌+ℤ◌, ◌-ℤ◌}
use lib.Signed.{le_z, lt_z, le_z_yes, lt_z_yes, lt_z_no, clash_ℤ}
use borrow.Author.Tests.{ltb-true, ltb-false, leb-true, leb-false}
use Rattle.history.proofs.Truth.{so, yes_so}
use Rattle.manual.specs.Words.{nat_of}
use Rattle.manual.proofs.WordsLaws.{clash, by}

abbrev pub over : ℤ → ℕ
over = nat_of

abbrev pub under : ℤ → ℕ
under (pos n) = 0
under (negsuc n) = suc n

-- ---- sum and difference

sub_is : (a b : ℕ) → over (sub_ℕ a b) + b ≡ a + under (sub_ℕ a b)
sub_is a b = by (ltb a b) (λ z. over z + b ≡ a + under z) (λ t. omega (arith, ltb-true)) (λ t. omega (arith, ltb-false))

pub add_is : (a b : ℤ) → over (a +ℤ b) + under a + under b ≡ over a + over b + under (a +ℤ b)
add_is (pos a) (pos b) = omega arith
add_is (pos a) (negsuc b) = omega (arith, sub_is a (suc b))
add_is (negsuc a) (pos b) = omega (arith, sub_is b (suc a))
add_is (negsuc a) (negsuc b) = omega arith

pub neg_is : (z : ℤ) → (over (neg_ℤ z) ≡ under z) × (under (neg_ℤ z) ≡ over z)
neg_is (pos zero) = (refl, refl)
neg_is (pos (suc n)) = (refl, refl)
neg_is (negsuc n) = (refl, refl)

pub minus_is : (a b : ℤ) → over (a -ℤ b) + under a + over b ≡ over a + under b + under (a -ℤ b)
minus_is a b = omega (arith, add_is a (neg_ℤ b), neg_is b)

-- ---- equality

pub same_is : (a b : ℤ) → over a + under b ≡ over b + under a → a ≡ b
same_is (pos a) (pos b) e = let h : a ≡ b = omega arith in ap pos h
same_is (pos a) (negsuc b) e = absurd (omega arith)
same_is (negsuc a) (pos b) e = absurd (omega arith)
same_is (negsuc a) (negsuc b) e = let h : a ≡ b = omega arith in ap negsuc h

-- ---- order: the tests as facts, and the facts as tests

pub le_yes : (a b : ℤ) → le_z a b ≡ true → over a + under b ≤ over b + under a
le_yes (pos a) (pos b) e = omega (arith, leb-true)
le_yes (pos a) (negsuc b) e = clash true refl (sym e)
le_yes (negsuc a) (pos b) e = omega arith
le_yes (negsuc a) (negsuc b) e = omega (arith, leb-true)

pub le_no : (a b : ℤ) → le_z a b ≡ false → over b + under a < over a + under b
le_no (pos a) (pos b) e = omega (arith, leb-false)
le_no (pos a) (negsuc b) e = omega arith
le_no (negsuc a) (pos b) e = clash true refl e
le_no (negsuc a) (negsuc b) e = omega (arith, leb-false)

pub yes_le : (a b : ℤ) → over a + under b ≤ over b + under a → le_z a b ≡ true
yes_le a b h = not-eq-not.0 (λ e. omega (arith, le_no))

pub no_le : (a b : ℤ) → over b + under a < over a + under b → le_z a b ≡ false
no_le a b h = not-eq-not.0 (λ e. omega (arith, le_yes))

pub lt_yes : (a b : ℤ) → lt_z a b ≡ true → over a + under b < over b + under a
lt_yes a b e =
    le_no b a (not-eq-not.0 (λ t. clash_ℤ {a = a} {b = b} (lt_z_yes (so (lt_z a b) e)) (le_z_yes (so (le_z b a) t))))

pub lt_no : (a b : ℤ) → lt_z a b ≡ false → over b + under a ≤ over a + under b
lt_no a b e = le_yes b a (yes_so (le_z b a) (lt_z_no {a = a} {b = b} (so (not (lt_z a b)) (ap not e))).le)

-- `omega signed` reads the tests le_z and lt_z in reach and proves a goal on le_z, or an equation; a sum's add_is is
-- listed beside it
pub ruleset signed = (arith, same_is, le_yes, le_no, yes_le, no_le, lt_yes, lt_no)
