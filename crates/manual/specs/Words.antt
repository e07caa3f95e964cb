-- Words that several sections of document 01 use: on the numbers below n, on lists, on bytes, on signed numbers.
-- Assumes nothing.
use Rattle.std.specs.Prelude.{Bool, true, false, ◌&&◌, cond, List, [], ◌∷◌, ◌++◌, ℕ, zero, suc, ◌+◌, ◌-◌, ◌*◌, ◌/◌, ◌%◌, eqb, ℤ, pos, negsuc, get_or}
use Rattle.std.proofs.Math.Option.{Option, none, some}
use Rattle.std.specs.Int.Signed.{le_z}

-- ---- the numbers below n

-- each of them passes
unfoldable pub all_below : ℕ → (ℕ → Bool) → Bool
all_below zero f = true
all_below (suc n) f = all_below n f && f n

-- how many of them pass
unfoldable pub count_below : ℕ → (ℕ → Bool) → ℕ
count_below zero f = zero
count_below (suc n) f = cond (f n) (suc (count_below n f)) (count_below n f)

-- done for each of them, in rising order
unfoldable pub for_below : {S : Type 0} → ℕ → (ℕ → S → S) → S → S
for_below zero f s = s
for_below (suc n) f s = f n (for_below n f s)

-- their lists, one after the other
unfoldable pub join_below : ℕ → (ℕ → List ℕ) → List ℕ
join_below zero f = []
join_below (suc n) f = join_below n f ++ f n

-- ---- lists

module _ {A : Type 0} where
  -- a property of each element
  abbrev pub All : (A → Type 0) → List A → Type 0
  All P [] = Unit {0}
  All P (x ∷ xs) = P x × All P xs

  -- the first that passes
  unfoldable pub first_of : (A → Bool) → List A → Option A
  first_of p [] = none
  first_of p (x ∷ l) = cond (p x) (some x) (first_of p l)

  abbrev pub or_else : Option A → Option A → Option A
  or_else (some a) b = some a
  or_else none b = b

  -- those that pass, in their order
  unfoldable pub those : (A → Bool) → List A → List A
  those p [] = []
  those p (x ∷ l) = cond (p x) (x ∷ those p l) (those p l)

  -- how many pass
  unfoldable pub count_those : (A → Bool) → List A → ℕ
  count_those p [] = 0
  count_those p (x ∷ l) = cond (p x) 1 0 + count_those p l

-- the lowest number below n that passes
unfoldable pub lowest_below : ℕ → (ℕ → Bool) → Option ℕ
lowest_below zero f = none
lowest_below (suc n) f = or_else (lowest_below n f) (cond (f n) (some n) none)

-- two lists of bytes are equal
unfoldable pub equal : List ℕ → List ℕ → Bool
equal [] [] = true
equal [] (y ∷ ys) = false
equal (x ∷ xs) [] = false
equal (x ∷ xs) (y ∷ ys) = eqb x y && equal xs ys

-- ---- numbers as bytes, high first

abbrev pub two : ℕ → List ℕ
two k = k / 256 ∷ k % 256 ∷ []

abbrev pub three : ℕ → List ℕ
three k = k / 65536 ∷ k / 256 % 256 ∷ k % 256 ∷ []

abbrev pub three_at : ℕ → List ℕ → ℕ
three_at i m = get_or m i 0 * 65536 + get_or m (i + 1) 0 * 256 + get_or m (i + 2) 0

-- ---- signed numbers

abbrev pub eq_z : ℤ → ℤ → Bool
eq_z (pos a) (pos b) = eqb a b
eq_z (pos a) (negsuc b) = false
eq_z (negsuc a) (pos b) = false
eq_z (negsuc a) (negsuc b) = eqb a b

-- "two's complement", in one byte
unfoldable pub twos_complement : ℤ → ℕ
twos_complement (pos n) = n % 256
twos_complement (negsuc n) = 255 - n % 256

-- lo to hi, both allowed
unfoldable pub between : ℤ → ℤ → ℤ → Bool
between lo hi z = le_z lo z && le_z z hi

unfoldable pub smaller : ℤ → ℤ → ℤ
smaller a b = cond (le_z a b) a b

unfoldable pub larger : ℤ → ℤ → ℤ
larger a b = cond (le_z a b) b a

-- as a count; no negative number is one that an accepted configuration is asked for so
abbrev pub nat_of : ℤ → ℕ
nat_of (pos n) = n
nat_of (negsuc n) = 0
