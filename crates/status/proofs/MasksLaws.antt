-- A status byte and a mask: what `bit_or`, `bit_and` and the tests on them are, bit by bit, in the words of history's
-- specs/StatusByte.antt.
use mathlib.Core.Path.{◌≡◌, refl, sym, ap, fun_ext, ◌∙◌}
use mathlib.Core.Bool.{Bool, true, false, not, ◌&&◌, ◌||◌, cond}
use mathlib.Core.List.{List, [], ◌∷◌}
use Prim.Native.Nat.{ℕ, zero, suc, ◌-◌, ◌*◌, ◌/◌, ◌%◌, ◌^◌, ◌<◌}
use native.Mathlib.Nat.{lt_of_le_of_lt}
use native.Mathlib.Omega.{arith}
use lib.Dec.{eqb, eqb→eq}
use lib.Pow.{pow_pos}
use lib.Bits.{bit_and, bit_or, and_le_r, and_shr, and_mod, or_shr, or_mod, and_high}
use borrow.Author.Tests.{eq-eqb, ne_eqb}
use Rattle.history.specs.Words.{same, any_of}
use Rattle.history.specs.StatusByte.{Bit, test_failed, test_failed_this_operation_cycle, pending_dtc, confirmed_dtc}
use Rattle.history.specs.StatusByte.{test_not_completed_since_last_clear, test_failed_since_last_clear}
use Rattle.history.specs.StatusByte.{test_not_completed_this_operation_cycle, warning_indicator_requested, Status, weight}
use Rattle.history.specs.StatusByte.{byte_of, status_of, among, set_bits, clear_bits, set_bits_if, clear_bits_if}
use Rattle.history.proofs.WordsLaws.{and_true, and_false}
use Rattle.history.proofs.Truth.{Law, truth, same_eq}
use Rattle.history.proofs.StatusByteLaws.{eight, row_of, each_bit, status_of_byte, byte_of_status}

-- the eight bits, and the mask of some
abbrev pub every_bit : List Bit
every_bit =
    test_failed
    ∷ test_failed_this_operation_cycle
    ∷ pending_dtc
    ∷ confirmed_dtc
    ∷ test_not_completed_since_last_clear
    ∷ test_failed_since_last_clear
    ∷ test_not_completed_this_operation_cycle
    ∷ warning_indicator_requested
    ∷ []

abbrev pub mask_of : List Bit → ℕ
mask_of bits = byte_of (among bits)

-- a byte whose bits are those of t is the byte of t
pub byte_is : (x : ℕ) (t : Status) → x < 256 → status_of x ≡ t → x ≡ byte_of t
byte_is x t h e = sym (byte_of_status x h) ∙ ap byte_of e

-- ---- or, and: bit by bit

-- what holds of each power of two holds of each weight
by_power : (P : ℕ → Type 0) → ((k : ℕ) → P (2 ^ k)) → (b : Bit) → P (weight b)
by_power P f = each_bit (λ b. P (weight b)) (f 0) (f 1) (f 2) (f 3) (f 4) (f 5) (f 6) (f 7)

low : (n : ℕ) → n % 2 < 2
low n = omega arith

-- two binary digits
digits : (P : ℕ → ℕ → Type 0) → P 0 0 → P 0 1 → P 1 0 → P 1 1 → (a b : ℕ) → a < 2 → b < 2 → P a b
digits P p q r s zero zero h k = p
digits P p q r s zero (suc zero) h k = q
digits P p q r s (suc zero) zero h k = r
digits P p q r s (suc zero) (suc zero) h k = s
digits P p q r s (suc (suc a)) b h k = absurd (omega arith)
digits P p q r s zero (suc (suc b)) h k = absurd (omega arith)
digits P p q r s (suc zero) (suc (suc b)) h k = absurd (omega arith)

-- an operation that goes digit by digit is a test on the bits
digitwise : (op : ℕ → ℕ → ℕ) (test : Bool → Bool → Bool)
    → ((a b k : ℕ) → op a b / 2 ^ k ≡ op (a / 2 ^ k) (b / 2 ^ k))
    → ((a b k : ℕ) → op a b % 2 ^ k ≡ op (a % 2 ^ k) (b % 2 ^ k))
    → ((x y : ℕ) → x < 2 → y < 2 → eqb (op x y) 1 ≡ test (eqb y 1) (eqb x 1))
    → (s m : ℕ) (b : Bit)
    → status_of (op s m) b ≡ test (status_of m b) (status_of s b)
digitwise op test shifted lowest digit s m =
    by_power (λ w. eqb (op s m / w % 2) 1 ≡ test (eqb (m / w % 2) 1) (eqb (s / w % 2) 1))
    (λ k. rw (shifted s m k, lowest (s / 2 ^ k) (m / 2 ^ k) 1)
    (digit (s / 2 ^ k % 2) (m / 2 ^ k % 2) (low (s / 2 ^ k)) (low (m / 2 ^ k))))

pub bit_of_or : (s m : ℕ) (b : Bit) → status_of (bit_or s m) b ≡ (status_of m b || status_of s b)
bit_of_or =
    digitwise bit_or ◌||◌ or_shr or_mod (digits (λ x y. eqb (bit_or x y) 1 ≡ (eqb y 1 || eqb x 1)) refl refl refl refl)

pub bit_of_and : (s m : ℕ) (b : Bit) → status_of (bit_and s m) b ≡ (status_of m b && status_of s b)
bit_of_and =
    digitwise bit_and ◌&&◌ and_shr and_mod
    (digits (λ x y. eqb (bit_and x y) 1 ≡ (eqb y 1 && eqb x 1)) refl refl refl refl)

-- ---- setting and clearing

-- 255 less a byte is the byte of the other bits, by the table
abbrev others : Law 8
others b0 b1 b2 b3 b4 b5 b6 b7 =
    eqb (255 - byte_of (eight b0 b1 b2 b3 b4 b5 b6 b7)) (byte_of (λ b. not (eight b0 b1 b2 b3 b4 b5 b6 b7 b)))

other_bits : (t : Status) (b : Bit) → status_of (255 - byte_of t) b ≡ not (t b)
other_bits t b =
    ap (λ (x : ℕ). status_of x b)
    (eqb→eq (255 - byte_of t) (byte_of (λ b. not (t b))) (truth 8 others tt (row_of t)))
    ∙ status_of_byte (λ b. not (t b)) b

module _ (bits : List Bit) (s : ℕ) where
  after_set : status_of (bit_or s (mask_of bits)) ≡ set_bits bits (status_of s)
  after_set =
      fun_ext (λ b. bit_of_or s (mask_of bits) b ∙ ap (λ (t : Bool). t || status_of s b) (status_of_byte (among bits) b))

  after_clear : status_of (bit_and s (255 - mask_of bits)) ≡ clear_bits bits (status_of s)
  after_clear =
      fun_ext
      (λ b. bit_of_and s (255 - mask_of bits) b ∙ ap (λ (t : Bool). t && status_of s b) (other_bits (among bits) b))

  after_set_if : (test : Bool) → status_of (cond test (bit_or s (mask_of bits)) s) ≡ set_bits_if test bits (status_of s)
  after_set_if true = after_set ∙ fun_ext (λ b. ap (λ (t : Bool). t || status_of s b) (sym (and_true (among bits b))))
  after_set_if false = fun_ext (λ b. ap (λ (t : Bool). t || status_of s b) (sym (and_false (among bits b))))

  after_clear_if : (test : Bool)
      → status_of (cond test (bit_and s (255 - mask_of bits)) s) ≡ clear_bits_if test bits (status_of s)
  after_clear_if true = after_clear ∙ fun_ext (λ b. go (among bits b) (status_of s b))
    where
      go : (a t : Bool) → (not a && t) ≡ cond (a && true) false t
      go true t = refl
      go false t = refl
  after_clear_if false = fun_ext (λ b. ap (λ (t : Bool). cond t false (status_of s b)) (sym (and_false (among bits b))))

  -- of a byte that stands for the status t
  module _ {x : ℕ} {t : Status} where
    pub set_is : x ≡ bit_or s (mask_of bits) → status_of s ≡ t → status_of x ≡ set_bits bits t
    set_is e p = ap status_of e ∙ after_set ∙ ap (set_bits bits) p

    pub clear_is : x ≡ bit_and s (255 - mask_of bits) → status_of s ≡ t → status_of x ≡ clear_bits bits t
    clear_is e p = ap status_of e ∙ after_clear ∙ ap (clear_bits bits) p

    pub set_if_is : (test : Bool) → x ≡ cond test (bit_or s (mask_of bits)) s → status_of s ≡ t
        → status_of x ≡ set_bits_if test bits t
    set_if_is test e p = ap status_of e ∙ after_set_if test ∙ ap (set_bits_if test bits) p

    pub clear_if_is : (test : Bool) → x ≡ cond test (bit_and s (255 - mask_of bits)) s → status_of s ≡ t
        → status_of x ≡ clear_bits_if test bits t
    clear_if_is test e p = ap status_of e ∙ after_clear_if test ∙ ap (clear_bits_if test bits) p

-- ---- testing

-- one bit of a byte alone
one_bit : (s : ℕ) (b : Bit) → bit_and s (weight b) ≡ s / weight b % 2 * weight b
one_bit s = each_bit (λ b. bit_and s (weight b) ≡ s / weight b % 2 * weight b)
    (and_high s 1 0) (and_high s 1 1) (and_high s 1 2) (and_high s 1 3) (and_high s 1 4) (and_high s 1 5)
    (and_high s 1 6) (and_high s 1 7)

whole_digit : (d w : ℕ) → d < 2 → 0 < w → eqb d 1 ≡ eqb (d * w) w
whole_digit zero w h k = sym (ne_eqb (0 * w) w (λ (e : 0 * w ≡ w). omega arith))
whole_digit (suc zero) w h k = sym (eq-eqb (1 * w) w (omega arith))
whole_digit (suc (suc d)) w h k = absurd (omega arith)

-- the test that a byte contains one bit
pub contains_is : (s : ℕ) (b : Bit) {r : Bool} → r ≡ eqb (bit_and s (weight b)) (weight b) → r ≡ status_of s b
contains_is s b e =
    e
    ∙ rw one_bit
    (sym (whole_digit (s / weight b % 2) (weight b) (low (s / weight b)) (by_power (λ w. 0 < w) pow_pos b)))

-- a byte is not 0 where one of its bits is set, by the table
abbrev some_set : Law 8
some_set b0 b1 b2 b3 b4 b5 b6 b7 =
    same (not (eqb (byte_of (eight b0 b1 b2 b3 b4 b5 b6 b7)) 0)) (any_of (eight b0 b1 b2 b3 b4 b5 b6 b7) every_bit)

some_set_lem : (t : Status) → not (eqb (byte_of t) 0) ≡ any_of t every_bit
some_set_lem t = same_eq _ _ (truth 8 some_set tt (row_of t))

-- the test that a byte and a mask share a set bit
pub shares_is : (s m : ℕ) {r : Bool} → m < 256 → r ≡ not (eqb (bit_and s m) 0)
    → r ≡ any_of (λ b. status_of m b && status_of s b) every_bit
shares_is s m h e =
    e
    ∙ ap (λ (x : ℕ). not (eqb x 0))
    (byte_is (bit_and s m) (λ b. status_of m b && status_of s b) (lt_of_le_of_lt (and_le_r s m) h)
    (fun_ext (bit_of_and s m)))
    ∙ some_set_lem (λ b. status_of m b && status_of s b)

-- what that test is for two bits and for three
pub neither_set : (a b : Bool) → not (a || (b || false)) ≡ (not a && not b)
neither_set true b = refl
neither_set false true = refl
neither_set false false = refl

pub one_of_two : (a b : Bool) → a || (b || false) ≡ (a || b)
one_of_two true b = refl
one_of_two false true = refl
one_of_two false false = refl

pub one_of_three : (a b c : Bool) → a || (b || (c || false)) ≡ (a || b || c)
one_of_three true b c = refl
one_of_three false true c = refl
one_of_three false false true = refl
one_of_three false false false = refl
