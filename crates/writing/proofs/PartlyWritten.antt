-- A list that is written place by place, over any elements: what stands in it after each turn of the loop, and at the
-- end.
use mathlib.Core.Path.{◌≡◌, refl, sym, ap, ◌∙◌}
use mathlib.Core.List.{List, [], ◌∷◌, ◌++◌, append-nil}
use Prim.Native.Nat.{ℕ, zero, suc, ◌+◌, ◌≤◌, ◌<◌}
use native.Mathlib.Nat.{add-zero, zero-add, add-suc, suc-add, le_of_suc-le-suc, not-suc-le-zero}
use native.Mathlib.Numerals.{add-one, one-add}
use native.Mathlib.Omega.{arith}
use lib.ListN.{length, take, drop, get_or, set, take-append-drop, drop_of_length-le, length-append}
use lib.Seq.{sets, sets-eq, take-suc, take_all, length-take-le, drop_at, set_split, append_snoc, drop-append_seam}
use Rattle.writing.specs.Writing.{laid}

-- ---- xs is stored in l from a place on: after i turns the list is sets l at (take i xs)

module _ {A : Type 0} where
  pub sets_append : (xs ys l : List A) (at : ℕ) → sets (sets l at xs) (at + length xs) ys ≡ sets l at (xs ++ ys)
  sets_append [] ys l at = ap (λ k. sets l k ys) (add-zero at)
  sets_append (x ∷ xs) ys l at =
      ap (λ k. sets (sets (set l at x) (suc at) xs) k ys) (add-suc at (length xs) ∙ sym (suc-add at (length xs)))
      ∙ sets_append xs ys (set l at x) (suc at)

  -- a turn
  pub sets_more : (d : A) (xs l : List A) (at i : ℕ) {v : A} → i < length xs → v ≡ get_or xs i d
      → set (sets l at (take i xs)) (at + i) v ≡ sets l at (take (i + 1) xs)
  sets_more d xs l at i h q =
      let e : length (take i xs) ≡ i = length-take-le i xs (omega arith) in
      (λ j. set (sets l at (take i xs)) (at + sym e j) (q j))
      ∙ sets_append (take i xs) (get_or xs i d ∷ []) l at ∙ rw (add-one, take-suc xs i d h)

  pub sets_first : (d : A) (xs l : List A) (i : ℕ) {v : A} → i < length xs → v ≡ get_or xs i d
      → set (sets l 0 (take i xs)) i v ≡ sets l 0 (take (i + 1) xs)
  sets_first d xs l i {v} h q = ap (λ k. set (sets l 0 (take i xs)) k v) (sym (zero-add i)) ∙ sets_more d xs l 0 i h q

  -- the end
  pub sets_all : (xs l : List A) (at i : ℕ) → i ≡ length xs → sets l at (take i xs) ≡ sets l at xs
  sets_all xs l at i e = ap (sets l at) (take_all i xs (omega arith))

  -- from the front on
  pub sets_laid : (xs l : List A) → length xs ≤ length l → sets l 0 xs ≡ laid xs l
  unfolding laid
  sets_laid xs l h = sets-eq xs l 0 (omega arith) ∙ ap (λ k. xs ++ drop k l) (zero-add (length xs))

  -- an element stored behind those at the front
  pub laid_next : (l : List A) (place : ℕ) (x : A) → place < length l
      → set l place x ≡ laid (take place l ++ x ∷ []) l
  unfolding laid
  laid_next l place x h =
      let e = length-append (take place l) (x ∷ []) in
      let t = length-take-le place l (omega arith) in
      let n : length (take place l ++ x ∷ []) ≡ suc place = omega (arith, e, t) in
      set_split l place x h ∙ sym (append_snoc (take place l) x (drop (suc place) l))
      ∙ ap (λ (k : ℕ). (take place l ++ x ∷ []) ++ drop k l) (sym n)

  -- over a list that is no longer
  pub laid_whole : (xs l : List A) → length l ≤ length xs → laid xs l ≡ xs
  unfolding laid
  laid_whole xs l h = ap (λ (r : List A). xs ++ r) (drop_of_length-le l h) ∙ append-nil xs

  -- the front as it stands
  pub laid_front : (l : List A) (n : ℕ) → n ≤ length l → laid (take n l) l ≡ l
  unfolding laid
  laid_front l n h = ap (λ (k : ℕ). take n l ++ drop k l) (length-take-le n l h) ∙ take-append-drop n l

  pub laid_again : (xs l : List A) → laid xs (laid xs l) ≡ laid xs l
  unfolding laid
  laid_again xs l = ap (λ (r : List A). xs ++ r) (drop-append_seam xs (drop (length xs) l))

  -- over a list with the same rest
  pub laid_over : (xs : List A) {place : ℕ} (l m : List A) → length xs ≡ place → drop place l ≡ drop place m
      → laid xs l ≡ laid xs m
  unfolding laid
  laid_over xs {place} l m n e =
      ap (λ (k : ℕ). xs ++ drop k l) n ∙ ap (λ (r : List A). xs ++ r) e ∙ ap (λ (k : ℕ). xs ++ drop k m) (sym n)

  -- what stands before the place stays
  sets_cons : (x : A) (at : ℕ) (xs l : List A) → sets (x ∷ l) (suc at) xs ≡ x ∷ sets l at xs
  sets_cons x at [] l = refl
  sets_cons x at (y ∷ ys) l = sets_cons x (suc at) ys (set l at y)

  pub sets_after_one : (x : A) (at : ℕ) (xs l : List A) → sets (x ∷ l) (1 + at) xs ≡ x ∷ sets l at xs
  sets_after_one x at xs l = ap (λ k. sets (x ∷ l) k xs) (one-add at) ∙ sets_cons x at xs l

  sets_after : (a xs l : List A) → sets (a ++ l) (length a) xs ≡ a ++ sets l 0 xs
  sets_after [] xs l = refl
  sets_after (y ∷ a) xs l = sets_cons y (length a) xs (a ++ l) ∙ ap (λ (r : List A). y ∷ r) (sets_after a xs l)

  -- a part in the middle gives way to another as long
  pub sets_middle : (a xs o b : List A) → length o ≡ length xs → sets (a ++ (o ++ b)) (length a) xs ≡ a ++ (xs ++ b)
  unfolding laid
  sets_middle a xs o b e =
      sets_after a xs (o ++ b)
      ∙ ap (λ (r : List A). a ++ r)
      (sets_laid xs (o ++ b) (omega (arith, length-append o b))
      ∙ ap (λ (r : List A). xs ++ r) (drop_at o b (length xs) e))

-- ---- g is wanted, m was there: after i places the list is mix i g m. Each such loop has the invariant `l ≡ mix i g
-- m`, and shows of
-- itself only that it writes g's element at i.

module _ {A : Type 0} where
  abbrev pub mix : ℕ → List A → List A → List A
  mix i g m = take i g ++ drop i m

  -- a turn
  mix_next : (d : A) (g m : List A) (i : ℕ) → i < length g → i < length m
      → set (mix i g m) i (get_or g i d) ≡ mix (suc i) g m
  mix_next d [] m i h k = absurd (not-suc-le-zero h)
  mix_next d (x ∷ xs) [] i h k = absurd (not-suc-le-zero k)
  mix_next d (x ∷ xs) (y ∷ ys) zero h k = refl
  mix_next d (x ∷ xs) (y ∷ ys) (suc i) h k =
      ap (λ (l : List A). x ∷ l) (mix_next d xs ys i (le_of_suc-le-suc h) (le_of_suc-le-suc k))

  pub mix_more : (d : A) (g m : List A) (i : ℕ) (v : A) → length g ≡ length m → i < length m → v ≡ get_or g i d
      → set (mix i g m) i v ≡ mix (i + 1) g m
  mix_more d g m i v e h q = rw (q, add-one) (mix_next d g m i (omega arith) h)

  -- the end
  pub mix_all : (g m : List A) (i : ℕ) → length g ≡ length m → i ≡ length m → mix i g m ≡ g
  mix_all g m i e q =
      ap (λ (l : List A). take i g ++ l) (drop_of_length-le m {i = i} (omega arith)) ∙ append-nil (take i g)
      ∙ take_all i g (omega arith)

  -- what is not written yet
  pub mix_later : (d : A) (g m : List A) (i k : ℕ) → length g ≡ length m → i ≤ k → get_or (mix i g m) k d ≡ get_or m k d
  mix_later d g m zero k e h = refl
  mix_later d [] [] (suc i) k e h = refl
  mix_later d [] (y ∷ m) (suc i) k e h = absurd (omega arith)
  mix_later d (x ∷ g) [] (suc i) k e h = absurd (omega arith)
  mix_later d (x ∷ g) (y ∷ m) (suc i) zero e h = absurd (not-suc-le-zero h)
  mix_later d (x ∷ g) (y ∷ m) (suc i) (suc k) e h = mix_later d g m i k (omega arith) (le_of_suc-le-suc h)

  -- where the wanted list and the old one agree up to a place, a loop may begin there
  pub mix_from : (g m : List A) (i : ℕ) → take i g ≡ take i m → m ≡ mix i g m
  mix_from g m i e = sym (ap (λ (l : List A). l ++ drop i m) e ∙ take-append-drop i m)
