-- Laws of specs/Conditions.antt: what the bits of needed without present tell. In w bits that is `needed & !present`,
-- with 2 ^ w − 1 − present for !present.
use mathlib.Core.Path.{◌≡◌, refl, sym, ap, ap₂, ◌∙◌}
use mathlib.Core.Bool.{Bool, true, false, not, ◌&&◌, cond}
use mathlib.Core.Option.{Option, none, some}
use Prim.Native.Nat.{ℕ, zero, suc, ◌+◌, ◌-◌, ◌*◌, ◌/◌, ◌%◌, ◌^◌, ◌<◌, min}
use native.Mathlib.Nat.{pow-suc}
use native.Mathlib.Omega.{arith}
use lib.Dec.{eqb}
use lib.Bits.{bit_and, and_step, and_zero_r}
use lib.Count.{ones, ones_step, count_trailing_zeros, under}
use borrow.Author.Tests.{ne_eqb}
use Rattle.manual.specs.Words.{all_below, count_below, lowest_below, or_else}
use Rattle.manual.specs.Conditions.{in_set, is_missing, missing_of, or_none, lowest_missing_of, none_missing}

-- ---- the numbers below n, from 0 on

-- one above the number that was found
abbrev raised : Option ℕ → Option ℕ
raised none = none
raised (some k) = some (suc k)

module _ (f : ℕ → Bool) where
  abbrev later : ℕ → Bool
  later k = f (suc k)

  count_from_0 : (n : ℕ) → count_below (suc n) f ≡ cond (f 0) (suc (count_below n later)) (count_below n later)
  unfolding count_below
  count_from_0 zero = refl
  count_from_0 (suc n) =
      ap (λ (c : ℕ). cond (f (suc n)) (suc c) c) (count_from_0 n) ∙ swap (f 0) (f (suc n)) (count_below n later)
    where
      swap : (a b : Bool) (c : ℕ)
          → cond b (suc (cond a (suc c) c)) (cond a (suc c) c) ≡ cond a (suc (cond b (suc c) c)) (cond b (suc c) c)
      swap true true c = refl
      swap true false c = refl
      swap false true c = refl
      swap false false c = refl

  all_from_0 : (n : ℕ) → all_below (suc n) f ≡ f 0 && all_below n later
  unfolding all_below
  all_from_0 zero = only (f 0)
    where
      only : (a : Bool) → true && a ≡ a && true
      only true = refl
      only false = refl
  all_from_0 (suc n) =
      ap (λ (a : Bool). a && f (suc n)) (all_from_0 n) ∙ together (f 0) (all_below n later) (f (suc n))
    where
      together : (a b c : Bool) → (a && b) && c ≡ a && (b && c)
      together true b c = refl
      together false b c = refl

  lowest_from_0 : (n : ℕ) → lowest_below (suc n) f ≡ cond (f 0) (some 0) (raised (lowest_below n later))
  unfolding lowest_below
  lowest_from_0 zero = refl
  lowest_from_0 (suc n) =
      ap (λ (o : Option ℕ). or_else o (cond (f (suc n)) (some (suc n)) none)) (lowest_from_0 n)
      ∙ go (f 0) (lowest_below n later) (f (suc n))
    where
      go : (a : Bool) (o : Option ℕ) (b : Bool)
          → or_else (cond a (some 0) (raised o)) (cond b (some (suc n)) none)
          ≡ cond a (some 0) (raised (or_else o (cond b (some n) none)))
      go true o b = refl
      go false none true = refl
      go false none false = refl
      go false (some k) b = refl

  -- the last of them does not pass
  module _ (n : ℕ) (last : f n ≡ false) where
    count_but_last : count_below (suc n) f ≡ count_below n f
    unfolding count_below
    count_but_last = rw last

    all_but_last : all_below (suc n) (λ k. not (f k)) ≡ all_below n (λ k. not (f k))
    unfolding all_below
    all_but_last = rw last (whole (all_below n (λ k. not (f k))))
      where
        whole : (a : Bool) → a && true ≡ a
        whole true = refl
        whole false = refl

    lowest_but_last : lowest_below (suc n) f ≡ lowest_below n f
    unfolding lowest_below
    lowest_but_last = rw last (whole (lowest_below n f))
      where
        whole : (o : Option ℕ) → or_else o none ≡ o
        whole (some k) = refl
        whole none = refl

-- ---- needed without present, digit by digit

-- !b, and a & !b, in w bits
abbrev pub complement : ℕ → ℕ → ℕ
complement w b = 2 ^ w - 1 - b

abbrev pub without_in : ℕ → ℕ → ℕ → ℕ
without_in w a b = bit_and a (complement w b)

-- a digit, 0 or 1
abbrev digit : Bool → ℕ
digit d = cond d 1 0

module _ (P b : ℕ) (h : b < P * 2) where
  half_complement : (P * 2 - 1 - b) / 2 ≡ P - 1 - b / 2
  half_complement = omega arith

  odd_complement : (P * 2 - 1 - b) % 2 ≡ 1 - b % 2
  odd_complement = omega arith

  half_below : b / 2 < P
  half_below = omega arith

digit_is : (x y : ℕ) → x < 2 → y < 2 → min x (1 - y) ≡ digit (eqb x 1 && not (eqb y 1))
digit_is zero zero h k = refl
digit_is zero (suc zero) h k = refl
digit_is zero (suc (suc y)) h k = absurd (let w : ⊥ = omega arith in w)
digit_is (suc zero) zero h k = refl
digit_is (suc zero) (suc zero) h k = refl
digit_is (suc zero) (suc (suc y)) h k = absurd (let w : ⊥ = omega arith in w)
digit_is (suc (suc x)) y h k = absurd (let w : ⊥ = omega arith in w)

module _ (w a b : ℕ) (h : b < 2 ^ suc w) where
  within : b < 2 ^ w * 2
  within = rw (pow-suc 2 w) at h

  rest_within : b / 2 < 2 ^ w
  rest_within = half_below (2 ^ w) b within

  -- the lowest digit, and the others
  without_step : without_in (suc w) a b ≡ without_in w (a / 2) (b / 2) * 2 + digit (is_missing a b 0)
  unfolding in_set
  without_step =
      ap (λ (p : ℕ). bit_and a (p - 1 - b)) (pow-suc 2 w)
      ∙ and_step a (2 ^ w * 2 - 1 - b)
      ∙ ap₂ (λ (m d : ℕ). bit_and (a / 2) m * 2 + min (a % 2) d) (half_complement (2 ^ w) b within)
      (odd_complement (2 ^ w) b within)
      ∙ ap (λ (d : ℕ). without_in w (a / 2) (b / 2) * 2 + d) (digit_is (a % 2) (b % 2) (omega arith) (omega arith))

module _ (r : ℕ) where
  half_of : (d : Bool) → (r * 2 + digit d) / 2 ≡ r
  half_of true = omega arith
  half_of false = omega arith

  odd_of : (d : Bool) → (r * 2 + digit d) % 2 ≡ digit d
  odd_of true = omega arith
  odd_of false = omega arith

  ones_pair : (d : Bool) → ones (r * 2 + digit d) ≡ cond d (suc (ones r)) (ones r)
  ones_pair d =
      ones_step (r * 2 + digit d) ∙ ap₂ (λ (x y : ℕ). x + ones y) (odd_of d) (half_of d) ∙ go d
    where
      go : (d : Bool) → digit d + ones r ≡ cond d (suc (ones r)) (ones r)
      go true = omega arith
      go false = omega arith

  zeros_pair : (w : ℕ) (d : Bool) → count_trailing_zeros (suc w) (r * 2 + digit d) ≡ cond d 0 (suc (count_trailing_zeros w r))
  unfolding count_trailing_zeros
  zeros_pair w d = ap₂ (λ (x y : ℕ). under x (count_trailing_zeros w y)) (odd_of d) (half_of d) ∙ go d
    where
      go : (d : Bool) → under (digit d) (count_trailing_zeros w r) ≡ cond d 0 (suc (count_trailing_zeros w r))
      go true = refl
      go false = refl

zero_pair : (r : ℕ) (d : Bool) → eqb (r * 2 + digit d) 0 ≡ not d && eqb r 0
zero_pair r true = ne_eqb (r * 2 + 1) 0 (λ (z : r * 2 + 1 ≡ 0). let w : ⊥ = omega arith in w)
zero_pair zero false = refl
zero_pair (suc r) false =
    ne_eqb (suc r * 2 + 0) 0 (λ (z : suc r * 2 + 0 ≡ 0). let w : ⊥ = omega arith in w)
    ∙ sym (ne_eqb (suc r) 0 (λ (z : suc r ≡ 0). let w : ⊥ = omega arith in w))

-- ---- so in w bits

ones_count : (w a b : ℕ) → b < 2 ^ w → ones (without_in w a b) ≡ count_below w (is_missing a b)
unfolding ones count_below in_set
ones_count zero a b h =
    let z : complement 0 b ≡ 0 = omega arith in ap (λ (m : ℕ). ones (bit_and a m)) z ∙ ap ones (and_zero_r a)
ones_count (suc w) a b h =
    ap ones (without_step w a b h) ∙ ones_pair (without_in w (a / 2) (b / 2)) (is_missing a b 0)
    ∙ ap (λ (c : ℕ). cond (is_missing a b 0) (suc c) c) (ones_count w (a / 2) (b / 2) (rest_within w a b h))
    ∙ sym (count_from_0 (is_missing a b) w)

none_left : (w a b : ℕ) → b < 2 ^ w → eqb (without_in w a b) 0 ≡ all_below w (λ k. not (is_missing a b k))
unfolding all_below in_set
none_left zero a b h =
    let z : complement 0 b ≡ 0 = omega arith in
    ap (λ (m : ℕ). eqb (bit_and a m) 0) z ∙ ap (λ (m : ℕ). eqb m 0) (and_zero_r a)
none_left (suc w) a b h =
    ap (λ (m : ℕ). eqb m 0) (without_step w a b h) ∙ zero_pair (without_in w (a / 2) (b / 2)) (is_missing a b 0)
    ∙ ap (λ (t : Bool). not (is_missing a b 0) && t) (none_left w (a / 2) (b / 2) (rest_within w a b h))
    ∙ sym (all_from_0 (λ k. not (is_missing a b k)) w)

-- the number that was found, or w
abbrev or_width : ℕ → Option ℕ → ℕ
or_width w none = w
or_width w (some k) = k

zeros_lowest : (w a b : ℕ) → b < 2 ^ w → count_trailing_zeros w (without_in w a b) ≡ or_width w (lowest_below w (is_missing a b))
unfolding count_trailing_zeros lowest_below in_set
zeros_lowest zero a b h = refl
zeros_lowest (suc w) a b h =
    ap (count_trailing_zeros (suc w)) (without_step w a b h)
    ∙ zeros_pair (without_in w (a / 2) (b / 2)) w (is_missing a b 0)
    ∙ ap (λ (t : ℕ). cond (is_missing a b 0) 0 (suc t)) (zeros_lowest w (a / 2) (b / 2) (rest_within w a b h))
    ∙ go (is_missing a b 0) (lowest_below w (λ k. is_missing a b (suc k)))
    ∙ ap (or_width (suc w)) (sym (lowest_from_0 (is_missing a b) w))
  where
    go : (d : Bool) (o : Option ℕ) → cond d 0 (suc (or_width w o)) ≡ or_width (suc w) (cond d (some 0) (raised o))
    go true o = refl
    go false none = refl
    go false (some k) = refl

-- ---- in 32 bits, of which a needed set uses 31

not_in : (k a : ℕ) → a < 2 ^ k → in_set a k ≡ false
unfolding in_set
not_in zero a h = let z : a ≡ 0 = omega arith in rw z
not_in (suc k) a h = not_in k (a / 2) (half_below (2 ^ k) a (rw (pow-suc 2 k) at h))

module _ (needed present : ℕ) (narrow : needed < 2 ^ 31) (h : present < 2 ^ 32) where
  last_none : is_missing needed present 31 ≡ false
  last_none = rw (not_in 31 needed narrow)

  -- "count_ones of needed without present gives the number"
  pub count_ones_is : ones (without_in 32 needed present) ≡ missing_of needed present
  unfolding missing_of
  count_ones_is = ones_count 32 needed present h ∙ count_but_last (is_missing needed present) 31 last_none

  -- "trailing_zeros gives the lowest missing condition, 32 when none"
  pub trailing_zeros_is : count_trailing_zeros 32 (without_in 32 needed present) ≡ lowest_missing_of needed present
  unfolding lowest_missing_of
  trailing_zeros_is =
      zeros_lowest 32 needed present h
      ∙ ap (or_width 32) (lowest_but_last (is_missing needed present) 31 last_none)
      ∙ same (lowest_below 31 (is_missing needed present))
    where
      same : (o : Option ℕ) → or_width 32 o ≡ or_none o
      same none = refl
      same (some k) = refl

  pub nothing_left_is : eqb (without_in 32 needed present) 0 ≡ none_missing needed present
  unfolding none_missing
  nothing_left_is = none_left 32 needed present h ∙ all_but_last (is_missing needed present) 31 last_none
