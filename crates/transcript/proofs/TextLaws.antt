-- Laws of specs/Text.antt, in its order.
use mathlib.Core.Path.{◌≡◌, refl, sym, ap, ◌∙◌}
use mathlib.Core.Bool.{Bool, true, false, not, ◌&&◌, beq, cond}
use mathlib.Core.List.{List, [], ◌∷◌, tail}
use Prim.Native.Nat.{ℕ, zero, suc, ◌+◌, ◌-◌, ◌*◌, ◌^◌, ◌≤◌, ◌<◌}
use native.Mathlib.Nat.{add-zero, add-suc, suc-add, pow-suc, pow-le-pow_right, lt_of_lt_of_le}
use native.Mathlib.Numerals.{add-one}
use native.Mathlib.Omega.{arith}
use borrow.Author.Tests.{leb-true, le-leb, lt-leb}
use lib.Dec.{leb}
use mir.Val.{bool_byte}
use lib.IntN.{ℤ}
use lib.Signed.{mag}
use lib.ListN.{length, get_or, take, drop, length-drop, drop_of_length-le}
use lib.Seq.{drop-cons, take_all, length-take-le, drop-drop}
use Rattle.std.specs.List.{list_all, prefix_len}
use Rattle.history.specs.Words.{same, all_of, since, joined, cut_at}
use Rattle.history.proofs.WordsLaws.{and_left, and_right, cut_at_newest}
use Rattle.manual.specs.Words.{those}
use Rattle.manual.proofs.WordsLaws.{by}
use Rattle.transcript.specs.Text.{is_separator, run, not_empty, words, is_digit, one_to_ten_digits, worth}
use Rattle.transcript.specs.Text.{largest, is_magnitude}
use Rattle.transcript.specs.Text.{has_minus, with_sign, is_number, value_of, read_word, next_read}
use Rattle.transcript.specs.declared.Word.TheVariants.{Number, Unreadable, End}

-- ---- run

-- the code's test of two Bools
like : (k b : Bool) → beq b k ≡ same k b
like true true = refl
like true false = refl
like false true = refl
like false false = refl

-- the iterator that counts a run
pub run_counted : (separators : Bool) (text : List ℕ)
    → prefix_len (λ b. beq (is_separator b) separators) text ≡ run separators text
unfolding run
run_counted k [] = refl
run_counted k (b ∷ text) =
    rw (like k (is_separator b), run_counted k text) (ap (λ n. cond (same k (is_separator b)) n zero) (omega arith))

pub run_within : (separators : Bool) (text : List ℕ) → run separators text ≤ length text
unfolding run
run_within k [] = omega arith
run_within k (b ∷ text) =
    by (same k (is_separator b)) (λ n. n ≤ suc (length text)) (λ t. omega (arith, run_within k text)) (λ t. omega arith)

-- ---- words

-- separators in front make no word
words_gap : (text : List ℕ) → words text ≡ words (drop (run true text) text)
unfolding words those run
words_gap [] = refl
words_gap (b ∷ text) = go (is_separator b) refl (words_gap text)
  where
    go : (t : Bool) → is_separator b ≡ t → words text ≡ words (drop (run true text) text)
        → words (b ∷ text) ≡ words (drop (cond t (suc (run true text)) zero) (b ∷ text))
    go true e ih = rw e ih
    go false e ih = refl

-- the bytes in front that are no separators are the first part, and the later words are those behind it
first_part : (text : List ℕ) → since is_separator text ≡ take (run false text) text
unfolding run
first_part [] = refl
first_part (b ∷ text) = go (is_separator b) (first_part text)
  where
    go : (t : Bool) → since is_separator text ≡ take (run false text) text
        → cond t [] (b ∷ since is_separator text) ≡ take (cond (not t) (suc (run false text)) zero) (b ∷ text)
    go true ih = refl
    go false ih = ap (λ l. b ∷ l) ih

later_parts : (text : List ℕ) → those not_empty (tail (cut_at is_separator text)) ≡ words (drop (run false text) text)
unfolding words those run
later_parts [] = refl
later_parts (b ∷ text) = go (is_separator b) refl (later_parts text)
  where
    go : (t : Bool) → is_separator b ≡ t
        → those not_empty (tail (cut_at is_separator text)) ≡ words (drop (run false text) text)
        → those not_empty (tail (cond t ([] ∷ cut_at is_separator text) (joined b (cut_at is_separator text))))
        ≡ words (drop (cond (not t) (suc (run false text)) zero) (b ∷ text))
    go true e ih = rw e
    go false e ih = rw cut_at_newest ih

words_first : (text : List ℕ) → 0 < run false text
    → words text ≡ take (run false text) text ∷ words (drop (run false text) text)
unfolding words those
words_first text h =
    let e : length (take (run false text) text) ≡ run false text = length-take-le _ text (run_within false text) in
    let k : 1 ≤ length (take (run false text) text) = omega arith in
    rw (cut_at_newest is_separator text, first_part text, le-leb 1 (length (take (run false text) text)) k)
    (ap (λ l. take (run false text) text ∷ l) (later_parts text))

-- behind the separators in front a word begins, unless the text ends there
word_begins : (text : List ℕ) → run true text < length text → 0 < run false (drop (run true text) text)
unfolding run
word_begins [] h = h
word_begins (b ∷ text) h = go (is_separator b) refl h (word_begins text)
  where
    go : (t : Bool) → is_separator b ≡ t → cond t (suc (run true text)) zero < suc (length text)
        → (run true text < length text → 0 < run false (drop (run true text) text))
        → 0 < run false (drop (cond t (suc (run true text)) zero) (b ∷ text))
    go true e k ih = ih (omega arith)
    go false e k ih = rw e (omega arith)

words_none : (text : List ℕ) → length text ≤ run true text → words text ≡ []
unfolding words those
words_none text h = words_gap text ∙ rw (drop_of_length-le text {i = run true text} h)

-- the first word of the text from `at` on begins at `start` and ends at `end`
pub record Found (at : ℕ) (text : List ℕ) (start end : ℕ) : Type 0 where
  pub begins : start ≡ at + run true (drop at text)
  pub longer : start < end
  pub within : end ≤ length text
  pub sized : length (take (end - start) (drop start text)) ≡ end - start
  pub first : words (drop at text) ≡ take (end - start) (drop start text) ∷ words (drop end text)

module _ (at : ℕ) (text : List ℕ) where
  pub not_found : length text ≤ at + run true (drop at text) → words (drop at text) ≡ []
  not_found h = words_none (drop at text) (rw length-drop (omega arith))

  pub found : (start end : ℕ) → start ≡ at + run true (drop at text) → start < length text
      → end ≡ start + run false (drop start text) → Found at text start end
  found start end s h e =
      let gap = run true (drop at text) in
      let size = run false (drop start text) in
      let there : drop start text ≡ drop gap (drop at text) = ap (λ i. drop i text) s ∙ sym (drop-drop gap at text) in
      let some : 0 < size = rw there (word_begins (drop at text) (rw length-drop (omega arith))) in
      let fits : end ≤ length text = omega (arith, run_within false (drop start text), length-drop start text) in
      let width : size ≡ end - start = omega arith in
      let behind : drop size (drop start text) ≡ drop end text =
      drop-drop size start text ∙ ap (λ k. drop k text) (sym e) in
      record {
        begins = s;
        longer = omega arith;
        within = fits;
        sized = length-take-le (end - start) (drop start text) (rw length-drop (omega arith));
        first =
            words_gap (drop at text) ∙ sym (ap words there) ∙ words_first (drop start text) some
            ∙ (λ i. take (width i) (drop start text) ∷ words (behind i));
      }

-- ---- digits

-- the iterator that looks at each byte
pub all_listed : (p : ℕ → Bool) (l : List ℕ) → list_all p l ≡ all_of p l
all_listed p [] = refl
all_listed p (b ∷ l) = ap (λ t. p b && t) (all_listed p l)

-- the loop that takes digit by digit: a turn
module _ (p : ℕ → Bool) (l : List ℕ) (i : ℕ) where
  all_more : i < length l → p (get_or l i 0) ≡ true → all_of p (drop i l) ≡ all_of p (drop (i + 1) l)
  all_more h e = rw (drop-cons l i 0 h, e, add-one)

  all_here : i < length l → all_of p (drop i l) ≡ true → p (get_or l i 0) ≡ true
  all_here h e = and_left _ (all_of p (drop (suc i) l)) (rw (drop-cons l i 0 h) at e)

pub digit_least : (b : ℕ) → is_digit b ≡ true → 0x30 ≤ b
digit_least b e = leb-true 0x30 b (and_left (leb 0x30 b) (leb b 0x39) e)

pub digit_most : (b : ℕ) → is_digit b ≡ true → b ≤ 0x39
digit_most b e = leb-true b 0x39 (and_right (leb 0x30 b) (leb b 0x39) e)

-- what "up to 10 digits" tells
module _ (digits : List ℕ) (t : one_to_ten_digits digits ≡ true) where
  pub digits_few : length digits ≤ 10
  unfolding one_to_ten_digits
  digits_few = leb-true (length digits) 10 (and_right (leb 1 (length digits)) _ (and_left _ (all_of is_digit digits) t))

  pub digits_all : all_of is_digit digits ≡ true
  unfolding one_to_ten_digits
  digits_all = and_right (leb 1 (length digits) && leb (length digits) 10) (all_of is_digit digits) t

-- ---- worth

pub worth_least : (n : ℕ) (digits : List ℕ) → n ≤ worth n digits
unfolding worth
worth_least n [] = omega arith
worth_least n (b ∷ digits) = omega (arith, worth_least (10 * n + (b - 0x30)) digits)

worth_below : (k n : ℕ) (digits : List ℕ) → n < 10 ^ k → all_of is_digit digits ≡ true
    → worth n digits < 10 ^ (k + length digits)
unfolding worth
worth_below k n [] h t = rw add-zero h
worth_below k n (b ∷ digits) h t =
    let d = digit_most b (and_left (is_digit b) (all_of is_digit digits) t) in
    let m : 10 * n + (b - 0x30) < 10 ^ suc k = rw pow-suc (omega arith) in
    rw (add-suc, ← suc-add)
    (worth_below (suc k) (10 * n + (b - 0x30)) digits m (and_right (is_digit b) (all_of is_digit digits) t))

pub worth_most : (digits : List ℕ) → one_to_ten_digits digits ≡ true → worth 0 digits < 10 ^ 10
worth_most digits t =
    let few : 0 + length digits ≤ 10 = omega (arith, digits_few digits t) in
    lt_of_lt_of_le (worth_below 0 0 digits (omega arith) (digits_all digits t)) (pow-le-pow_right (omega arith) few)

-- the loop that adds digit by digit, when the first i are worth n
pub record Added (digits : List ℕ) (i n : ℕ) : Type 0 where
  pub so_far : worth 0 digits ≡ worth n (drop i digits)
  pub left_over : all_of is_digit (drop i digits) ≡ true

pub added_none : (digits : List ℕ) → one_to_ten_digits digits ≡ true → Added digits 0 0
added_none digits t = record { so_far = refl; left_over = digits_all digits t }

module _ (digits : List ℕ) (i n : ℕ) (s : Added digits i n) where
  pub added_all : length digits ≤ i → n ≡ worth 0 digits
  unfolding worth
  added_all h = sym (s.so_far ∙ rw (drop_of_length-le digits {i = i} h))

  module _ (h : i < length digits) where
    pub added_here : is_digit (get_or digits i 0) ≡ true
    added_here = all_here is_digit digits i h s.left_over

    added_digit : worth 0 digits ≡ worth (10 * n + (get_or digits i 0 - 0x30)) (drop (i + 1) digits)
    unfolding worth
    added_digit = s.so_far ∙ rw (drop-cons digits i 0 h, add-one)

    pub added_more : (m : ℕ) → m ≡ 10 * n + (get_or digits i 0 - 0x30) → Added digits (i + 1) m
    added_more m e =
        record { so_far = rw e added_digit; left_over = sym (all_more is_digit digits i h added_here) ∙ s.left_over }

    pub added_room : one_to_ten_digits digits ≡ true → n < 1000000000
    added_room t =
        omega
        (arith, worth_least (10 * n + (get_or digits i 0 - 0x30)) (drop (i + 1) digits), added_digit, worth_most digits t)

-- ---- is_magnitude

module _ (digits : List ℕ) where
  pub no_digits : one_to_ten_digits digits ≡ false → is_magnitude digits ≡ false
  unfolding is_magnitude
  no_digits e = rw e

  pub too_large : one_to_ten_digits digits ≡ true → largest < worth 0 digits → is_magnitude digits ≡ false
  unfolding is_magnitude
  too_large e h = rw (e, lt-leb (worth 0 digits) largest h)

  pub large_enough : one_to_ten_digits digits ≡ true → worth 0 digits ≤ largest → is_magnitude digits ≡ true
  unfolding is_magnitude
  large_enough e h = rw (e, le-leb (worth 0 digits) largest h)

-- ---- with_sign

pub sign_size : (minus : Bool) (n : ℕ) → mag (with_sign minus n) ≤ n
unfolding with_sign
sign_size true zero = omega arith
sign_size true (suc n) = omega arith
sign_size false n = omega arith

-- ---- numbers

-- the digits are what follows the first byte where that is a minus, else all
pub minus_width : (m : Bool) → bool_byte m ≤ 1
minus_width true = omega arith
minus_width false = omega arith

digits_part : (m : Bool) (word : List ℕ)
    → take (length word - bool_byte m) (drop (bool_byte m) word) ≡ cond m (drop 1 word) word
digits_part true word = take_all (length word - 1) (drop 1 word) (simp length-drop (omega arith))
digits_part false word = take_all (length word - 0) word (omega arith)

module _ (word : List ℕ) where
  abbrev digits_in : List ℕ
  digits_in = take (length word - bool_byte (has_minus word)) (drop (bool_byte (has_minus word)) word)

  pub number_is : is_magnitude digits_in ≡ is_number word
  unfolding is_number
  number_is = ap is_magnitude (digits_part (has_minus word) word)

  pub value_is : with_sign (has_minus word) (worth 0 digits_in) ≡ value_of word
  unfolding value_of
  value_is = ap (λ d. with_sign (has_minus word) (worth 0 d)) (digits_part (has_minus word) word)

-- ---- read_word

module _ (word : List ℕ) (end : ℕ) where
  pub reads_unreadable : is_number word ≡ false → Unreadable ≡ read_word word end
  unfolding read_word
  reads_unreadable e = rw e

  pub reads_number : is_number word ≡ true → (value : ℤ) → value ≡ value_of word
      → Number (record { value = value; minus = has_minus word; next = record { at = end } }) ≡ read_word word end
  unfolding read_word
  reads_number e value v = rw (e, v)

-- ---- next_read

module _ (at : ℕ) (text : List ℕ) where
  pub next_end : length text ≤ at + run true (drop at text) → End ≡ next_read at text
  unfolding next_read
  next_end h = rw (not_found at text h)

  pub next_word : (start end : ℕ) → Found at text start end
      → read_word (take (end - start) (drop start text)) end ≡ next_read at text
  unfolding next_read
  next_word start end f =
      let behind : at + run true (drop at text) + length (take (end - start) (drop start text)) ≡ end =
      rw (← f.begins, f.sized) (omega (arith, f.longer)) in
      rw (f.first, behind)
