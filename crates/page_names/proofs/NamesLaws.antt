-- Laws of specs/Names.antt, in its order.
use mathlib.Core.Path.{◌≡◌, refl, sym, ap, ◌∙◌}
use mathlib.Core.Bool.{Bool, true, false, not, ◌&&◌, cond}
use mathlib.Core.List.{List, [], ◌∷◌}
use Prim.Native.Nat.{ℕ, zero, suc, ◌+◌, ◌-◌, ◌*◌, ◌%◌, ◌^◌, ◌≤◌, ◌<◌}
use native.Mathlib.Nat.{pow-suc, pow-le-pow_right, lt_of_lt_of_le}
use native.Mathlib.Numerals.{add-one}
use native.Mathlib.Omega.{arith}
use borrow.Author.Tests.{clash, leb-true, eqb-true, ltb-true, ltb-false, eq-eqb, ne_eqb}
use lib.Dec.{eqb, leb, ltb}
use lib.ListN.{length, get_or, take, drop, length-drop, get_or-eq_default}
use lib.Seq.{take_all}
use Rattle.std.proofs.Common.{Some, None}
use Rattle.std.proofs.lemmas.List.{at_drop_more, at_drop_all}
use Rattle.std.specs.List.{prefix_len, slice_split, onto_first}
use Rattle.history.specs.Words.{joined, cut_at}
use Rattle.history.proofs.WordsLaws.{and_left, and_right}
use Rattle.page_names.specs.Utf8.{is_text}
use Rattle.page_names.specs.Names.{is_hex, is_space, leading, digits_in, code_end, name_start, name_in, code_fits}
use Rattle.page_names.specs.Names.{name_fits, is_good, worth_of, worth, is_newline, lines_of, ends_in_return, kept_of}
use Rattle.page_names.specs.Names.{kept, is_of, name_among, name_of, is_bad, bad_among}

length-take_le : (n : ℕ) (l : List ℕ) → length (take n l) ≤ length l
length-take_le zero l = omega arith
length-take_le (suc n) [] = omega arith
length-take_le (suc n) (x ∷ l) = let few = length-take_le n l in omega arith

lead_within : (p : ℕ → Bool) (l : List ℕ) → leading p l ≤ length l
lead_within p l = length-take_le (prefix_len p l) l

-- ---- a line

-- no byte past the end is an h
there : (l : List ℕ) (i : ℕ) → get_or l i 0 ≡ 0x68 → i < length l
there l i e = go (ltb i (length l)) refl
  where
    go : (t : Bool) → ltb i (length l) ≡ t → i < length l
    go true t = ltb-true i (length l) t
    go false t =
        let none = get_or-eq_default l 0 {n = i} (ltb-false i (length l) t) in
        let z : ⊥ = omega (arith, e, none) in absurd z

pub past_end : (l : List ℕ) (i : ℕ) → length l ≤ i → eqb (get_or l i 0) 0x68 ≡ false
past_end l i h = rw (get_or-eq_default l 0 {n = i} h)

module _ (line : List ℕ) where
  pub digits_within : digits_in line ≤ length line
  digits_within = lead_within is_hex line

  pub code_end_within : code_end line ≤ length line
  unfolding code_end
  code_end_within = go (eqb (get_or line (digits_in line) 0) 0x68) refl
    where
      go : (t : Bool) → eqb (get_or line (digits_in line) 0) 0x68 ≡ t
          → cond t (digits_in line + 1) (digits_in line) ≤ length line
      go true e = omega (arith, there line (digits_in line) (eqb-true (get_or line (digits_in line) 0) 0x68 e))
      go false e = digits_within

  pub name_start_within : name_start line ≤ length line
  unfolding name_start
  name_start_within =
      omega (
        arith,
        code_end_within,
        lead_within is_space (drop (code_end line) line),
        length-drop (code_end line) line,
      )

  -- what a good line tells
  module _ (t : is_good line ≡ true) where
    abbrev first : Bool
    first = code_fits (digits_in line)

    abbrev second : Bool
    second = ltb (code_end line) (name_start line)

    abbrev third : Bool
    third = name_fits (length line - name_start line)

    three : first && second && third ≡ true
    unfolding is_good
    three = and_left (first && second && third) (is_text (name_in line)) t

    pub good_digits : digits_in line ≤ 6
    good_digits =
        leb-true (digits_in line) 6
        (and_right (leb 1 (digits_in line)) (leb (digits_in line) 6)
        (and_left first second (and_left (first && second) third three)))

    pub good_size : length line - name_start line ≤ 120
    good_size =
        leb-true (length line - name_start line) 120
        (and_right (leb 1 (length line - name_start line)) (leb (length line - name_start line) 120)
        (and_right (first && second) third three))

-- what the code reads of a line
module _ (line : List ℕ) (d : ℕ) (q : d ≡ digits_in line) where
  pub ends_past : length line ≤ d → d ≡ code_end line
  unfolding code_end
  ends_past h = rw (← q, past_end line d h)

  pub ends_behind_h : get_or line d 0 ≡ 0x68 → d + 1 ≡ code_end line
  unfolding code_end
  ends_behind_h h = rw (← q, eq-eqb (get_or line d 0) 0x68 h)

  pub ends_without_h : (get_or line d 0 ≡ 0x68 → ⊥) → d ≡ code_end line
  unfolding code_end
  ends_without_h h = rw (← q, ne_eqb (get_or line d 0) 0x68 h)

-- a part that begins at n is the rest
pub rest_is : (l : List ℕ) (n : ℕ) → take (length l - n) (drop n l) ≡ drop n l
rest_is l n = take_all (length l - n) (drop n l) (simp length-drop (omega arith))

module _ (line : List ℕ) where
  pub good_is : {d end start : ℕ} {text : Bool} → d ≡ digits_in line → end ≡ code_end line
      → start ≡ name_start line
      → text ≡ is_text (take (length line - start) (drop start line))
      → code_fits d && ltb end start && name_fits (length line - start) && text ≡ is_good line
  unfolding is_good
  good_is {d} {end} {start} q e b t =
      let same = t ∙ ap is_text (rest_is line start ∙ ap (λ k. drop k line) b) in
      λ i. code_fits (q i) && ltb (e i) (b i) && name_fits (length line - b i) && same i

-- ---- worth

pub digit_few : (b : ℕ) → worth_of b < 16
unfolding worth_of
digit_few b = go (leb b 0x39)
  where
    go : (t : Bool) → cond t (b % 16) ((b + 9) % 16) < 16
    go true = omega arith
    go false = omega arith

module _ (line : List ℕ) where
  pub worth_none : worth 0 line ≡ 0
  unfolding worth
  worth_none = refl

  pub worth_more : (k : ℕ) → worth (k + 1) line ≡ 16 * worth k line + worth_of (get_or line k 0)
  unfolding worth
  worth_more k = rw add-one

  worth_below : (k : ℕ) → worth k line < 16 ^ k
  unfolding worth
  worth_below zero = omega arith
  worth_below (suc k) = rw pow-suc (omega (arith, worth_below k, digit_few (get_or line k 0)))

  pub worth_few : (k : ℕ) → k < 6 → worth k line < 1048576
  worth_few k h =
      let few : k ≤ 5 = omega arith in lt_of_lt_of_le (worth_below k) (pow-le-pow_right (omega arith) few)

-- ---- kept

module _ (line : List ℕ) where
  pub kept_shorter : get_or line (length line - 1) 0 ≡ 0x0D → take (length line - 1) line ≡ kept line
  unfolding kept kept_of
  kept_shorter e = rw (eq-eqb _ _ e)

  pub kept_none : length line ≡ 0 → line ≡ kept line
  unfolding kept kept_of
  kept_none e = go line e
    where
      go : (l : List ℕ) → length l ≡ 0 → l ≡ take (cond (ends_in_return l) (length l - 1) (length l)) l
      go [] e = refl
      go (x ∷ l) e = absurd (let z : ⊥ = omega (arith, e) in z)

  pub kept_whole : (get_or line (length line - 1) 0 ≡ 0x0D → ⊥) → line ≡ kept line
  unfolding kept kept_of
  kept_whole e = rw (ne_eqb _ _ e) (sym (take_all (length line) line (omega arith)))

-- ---- the lines

onto_is : (b : ℕ) (parts : List (List ℕ)) → onto_first b parts ≡ joined b parts
onto_is b [] = refl
onto_is b (part ∷ parts) = refl

pub lines_are : (l : List ℕ) → slice_split is_newline l ≡ lines_of l
unfolding lines_of
lines_are [] = refl
lines_are (b ∷ l) =
    (λ i. cond (is_newline b) ([] ∷ lines_are l i) (onto_first b (lines_are l i)))
    ∙ ap (cond (is_newline b) ([] ∷ cut_at is_newline l)) (onto_is b (cut_at is_newline l))

-- before a line with a byte stand as many newlines as lines
filled : (d l : List ℕ) (i : ℕ) → i < length (cut_at is_newline l) → 0 < length (get_or (cut_at is_newline l) i d)
    → i + 1 ≤ length l
filled d [] zero h f = absurd (let z : ⊥ = omega (arith, f) in z)
filled d [] (suc i) h f = absurd (let z : ⊥ = omega (arith, h) in z)
filled d (b ∷ l) i h f = go (is_newline b) (cut_at is_newline l) (filled d l) i h f
  where
    go : (t : Bool) (parts : List (List ℕ))
        → ((i : ℕ) → i < length parts → 0 < length (get_or parts i d) → i + 1 ≤ length l) → (i : ℕ)
        → i < length (cond t ([] ∷ parts) (joined b parts))
        → 0 < length (get_or (cond t ([] ∷ parts) (joined b parts)) i d) → i + 1 ≤ suc (length l)
    go true parts ih zero h f = omega arith
    go true parts ih (suc i) h f = let few = ih i (omega arith) f in omega (arith, few)
    go false [] ih zero h f = omega arith
    go false [] ih (suc i) h f = absurd (let z : ⊥ = omega (arith, h) in z)
    go false (part ∷ parts) ih zero h f = omega arith
    go false (part ∷ parts) ih (suc i) h f = let few = ih (suc i) (omega arith) f in omega (arith, few)

pub bad_within : (file : List ℕ) (i : ℕ) (line : List ℕ) → i < length (lines_of file) → line ≡ get_or (lines_of file) i line
    → is_bad (kept line) ≡ true → i + 1 ≤ length file
unfolding lines_of is_bad kept
bad_within file i line h e t =
    let some = and_left (not (eqb (length (kept line)) 0)) (not (is_good (kept line))) t in
    let few = length-take_le (kept_of line) line in
    filled line file i h (rw (← e) (go (length (kept line)) some few))
  where
    go : (n : ℕ) → not (eqb n 0) ≡ true → n ≤ length line → 0 < length line
    go zero q h = absurd (clash q)
    go (suc n) q h = omega (arith, h)

module _ (code : ℕ) where
  pub name_turn : (lines : List (List ℕ)) (i : ℕ) (line : List ℕ) → i < length lines → line ≡ get_or lines i line
      → name_among code (drop i lines)
      ≡ cond (is_of code (kept line)) (name_in (kept line)) (name_among code (drop (i + 1) lines))
  unfolding name_among
  name_turn lines i line h e =
      at_drop_more (name_among code) lines i line h
      ∙ ap (λ (l : List ℕ). cond (is_of code (kept l)) (name_in (kept l)) (name_among code (drop (i + 1) lines))) (sym e)

  pub name_end : (lines : List (List ℕ)) (i : ℕ) → i ≡ length lines → name_among code (drop i lines) ≡ []
  unfolding name_among
  name_end lines i e = at_drop_all (name_among code) lines i (omega (arith, e))

module _ (n : ℕ) where
  pub bad_turn : (lines : List (List ℕ)) (i : ℕ) (line : List ℕ) → i < length lines → line ≡ get_or lines i line
      → bad_among n (drop i lines) ≡ cond (is_bad (kept line)) (Some n) (bad_among (n + 1) (drop (i + 1) lines))
  unfolding bad_among
  bad_turn lines i line h e =
      at_drop_more (bad_among n) lines i line h
      ∙ ap (λ (l : List ℕ). cond (is_bad (kept l)) (Some n) (bad_among (n + 1) (drop (i + 1) lines))) (sym e)

  pub bad_end : (lines : List (List ℕ)) (i : ℕ) → i ≡ length lines → bad_among n (drop i lines) ≡ None
  unfolding bad_among
  bad_end lines i e = at_drop_all (bad_among n) lines i (omega (arith, e))

-- ---- a name has 120 bytes at most

among_few : (code : ℕ) (lines : List (List ℕ)) → length (name_among code lines) ≤ 120
unfolding name_among is_of
among_few code [] = omega arith
among_few code (line ∷ lines) = go (is_of code (kept line)) refl (among_few code lines)
  where
    go : (t : Bool) → is_of code (kept line) ≡ t → length (name_among code lines) ≤ 120
        → length (cond t (name_in (kept line)) (name_among code lines)) ≤ 120
    go true e ih =
        let size = good_size (kept line) (and_left (is_good (kept line)) _ e) in
        rw (length-drop (name_start (kept line)) (kept line)) size
    go false e ih = ih

pub name_few : (code : ℕ) (file : List ℕ) → length (name_of code file) ≤ 120
unfolding name_of
name_few code file = among_few code (lines_of file)
