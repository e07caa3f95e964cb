-- Laws of specs/Words.antt, in its order, and of the words on lists that it stands on.
use mathlib.Core.Path.{◌≡◌, refl, sym, ap, subst, ◌∙◌}
use mathlib.Core.Logic.{◌⊎◌, inl, inr, ⊎_elim}
use mathlib.Core.Bool.{Bool, true, false, not, ◌&&◌, ◌||◌, cond, true≢false}
use mathlib.Core.List.Memᴰ
use mathlib.Core.List.{List, [], ◌∷◌, ◌++◌, Memᴰ}
use mathlib.Core.Option.{Option, none, some, none-ne-some, some-ne-none, some-injective}
use Prim.Native.Nat.{ℕ, zero, suc, ◌+◌, ◌≤◌, ◌<◌}
use native.Mathlib.Nat.{eq-or-lt_of_le, le_of_suc-le-suc, not-suc-le-zero, le_refl}
use native.Mathlib.Omega.{arith}
use lib.Dec.{eqb}
use lib.ListN.{length, length-append, replicate}
use lib.IntN.{ℤ, pos, negsuc}
use lib.Signed.{le_z}
use borrow.Author.Tests.{eq-eqb, eqb-true}
use Rattle.history.specs.Words.{any_of, all_of}
use Rattle.history.proofs.WordsLaws.{and_left, and_right, both}
use Rattle.manual.specs.Words.{All, all_below, for_below, first_of, or_else, lowest_below, those, count_those, equal}
use Rattle.manual.specs.Words.{eq_z, between}

-- ---- tests

-- no test both holds and fails
pub clash : {A : Type 0} (a : Bool) → a ≡ true → a ≡ false → A
clash a p q = absurd (true≢false (sym p ∙ q))

-- what holds of each branch holds of the choice
pub by : {A : Type 0} (b : Bool) (P : A → Type 0) {x y : A} → (b ≡ true → P x) → (b ≡ false → P y) → P (cond b x y)
by true P f g = f refl
by false P f g = g refl

pub either : (a b : Bool) → a || b ≡ true → (a ≡ true) ⊎ (b ≡ true)
either true b e = inl refl
either false b e = inr e

pub neither : (a b : Bool) → a || b ≡ false → (a ≡ false) × (b ≡ false)
neither true b e = clash true refl e
neither false b e = (refl, e)

-- ---- the numbers below n

pub all_below_at : (n : ℕ) (f : ℕ → Bool) → all_below n f ≡ true → (e : ℕ) → e < n → f e ≡ true
unfolding all_below
all_below_at zero f t e h = absurd (not-suc-le-zero h)
all_below_at (suc n) f t e h =
    ⊎_elim (λ q. subst (λ (k : ℕ). f k ≡ true) (sym q) (and_right (all_below n f) (f n) t))
    (λ q. all_below_at n f (and_left (all_below n f) (f n) t) e q)
    (eq-or-lt_of_le (le_of_suc-le-suc h))

pub all_below_lem : (n : ℕ) (f : ℕ → Bool) → ((e : ℕ) → e < n → f e ≡ true) → all_below n f ≡ true
unfolding all_below
all_below_lem zero f h = refl
all_below_lem (suc n) f h = both (all_below n f) (f n) (all_below_lem n f (λ e q. h e (omega arith))) (h n (omega arith))

-- what each step keeps, the whole keeps
pub for_below_keeps : {S : Type 0} (P : S → Type 0) (one : ℕ → S → S) (n m : ℕ) → m ≤ n
    → ((k : ℕ) (s : S) → k < n → P s → P (one k s)) → (s : S) → P s → P (for_below m one s)
unfolding for_below
for_below_keeps P one n zero h f s p = p
for_below_keeps P one n (suc m) h f s p = f m (for_below m one s) h (for_below_keeps P one n m (omega arith) f s p)

-- the lowest that passes
module _ (f : ℕ → Bool) where
  pub lowest_none : (n : ℕ) → ((k : ℕ) → k < n → f k ≡ false) → lowest_below n f ≡ none
  unfolding lowest_below
  lowest_none zero h = refl
  lowest_none (suc n) h = rw (lowest_none n (λ k q. h k (omega arith)), h n (omega arith))

  pub none_lowest : (n : ℕ) → lowest_below n f ≡ none → (k : ℕ) → k < n → f k ≡ false
  unfolding lowest_below
  none_lowest zero e k h = absurd (not-suc-le-zero h)
  none_lowest (suc n) e k h = go (lowest_below n f) refl (f n) refl e (λ p. none_lowest n p k)
    where
      go : (o : Option ℕ) → lowest_below n f ≡ o → (b : Bool) → f n ≡ b → or_else o (cond b (some n) none) ≡ none
          → (lowest_below n f ≡ none → k < n → f k ≡ false) → f k ≡ false
      go (some a) p b q t ih = absurd (some-ne-none a t)
      go none p true q t ih = absurd (some-ne-none n t)
      go none p false q t ih = ⊎_elim (λ s. ap f s ∙ q) (ih p) (eq-or-lt_of_le (le_of_suc-le-suc h))

  pub lowest_some : (n e : ℕ) → e < n → f e ≡ true → ((k : ℕ) → k < e → f k ≡ false) → lowest_below n f ≡ some e
  unfolding lowest_below
  lowest_some zero e h t first = absurd (not-suc-le-zero h)
  lowest_some (suc n) e h t first =
      ⊎_elim (λ s. here (sym s)) (λ s. rw (lowest_some n e s t first))
      (eq-or-lt_of_le (le_of_suc-le-suc h))
    where
      here : n ≡ e → or_else (lowest_below n f) (cond (f n) (some n) none) ≡ some e
      here s = rw (lowest_none n (λ k q. first k (subst (λ (m : ℕ). k < m) s q)), s, t)

  pub record Lowest (n e : ℕ) : Type 0 where
    pub below : e < n
    pub passes : f e ≡ true
    pub first : (k : ℕ) → k < e → f k ≡ false

  pub some_lowest : (n e : ℕ) → lowest_below n f ≡ some e → Lowest n e
  unfolding lowest_below
  some_lowest zero e q = absurd (none-ne-some e q)
  some_lowest (suc n) e q = go (lowest_below n f) refl (f n) refl q (some_lowest n e)
    where
      go : (o : Option ℕ) → lowest_below n f ≡ o → (b : Bool) → f n ≡ b → or_else o (cond b (some n) none) ≡ some e
          → (lowest_below n f ≡ some e → Lowest n e) → Lowest (suc n) e
      go (some a) p b r t ih =
          let l = ih (p ∙ t) in record { below = omega arith; passes = l.passes; first = l.first }
      go none p true r t ih =
          let s : n ≡ e = some-injective n e t in
          record { below = omega arith; passes = rw (sym s) r; first = rw (sym s) (none_lowest n p) }
      go none p false r t ih = absurd (none-ne-some e t)

-- ---- lists

module _ {A : Type 0} where
  pub all_map : (P Q : A → Type 0) → ((x : A) → P x → Q x) → (xs : List A) → All P xs → All Q xs
  all_map P Q f [] a = tt
  all_map P Q f (x ∷ xs) a = (f x a.0, all_map P Q f xs a.1)

  pub all_both : (P Q R : A → Type 0) → ((x : A) → P x → Q x → R x) → (xs : List A) → All P xs → All Q xs → All R xs
  all_both P Q R f [] a b = tt
  all_both P Q R f (x ∷ xs) a b = (f x a.0 b.0, all_both P Q R f xs a.1 b.1)

  pub all_append : (P : A → Type 0) (xs ys : List A) → All P xs → All P ys → All P (xs ++ ys)
  all_append P [] ys a b = b
  all_append P (x ∷ xs) ys a b = (a.0, all_append P xs ys a.1 b)

  -- the test all_of, and the property
  pub all_of_test : (p : A → Bool) (xs : List A) → all_of p xs ≡ true → All (λ x. p x ≡ true) xs
  all_of_test p [] e = tt
  all_of_test p (x ∷ xs) e = (and_left (p x) (all_of p xs) e, all_of_test p xs (and_right (p x) (all_of p xs) e))

  pub test_of_all : (P : A → Type 0) (p : A → Bool) → ((x : A) → P x → p x ≡ true) → (xs : List A) → All P xs
      → all_of p xs ≡ true
  test_of_all P p f [] a = refl
  test_of_all P p f (x ∷ xs) a = both (p x) (all_of p xs) (f x a.0) (test_of_all P p f xs a.1)

  pub any_of_append : (p : A → Bool) (xs ys : List A) → any_of p (xs ++ ys) ≡ (any_of p xs || any_of p ys)
  any_of_append p [] ys = refl
  any_of_append p (x ∷ xs) ys = rw (any_of_append p xs ys) (or_assoc (p x) (any_of p xs) (any_of p ys))
    where
      or_assoc : (a b c : Bool) → a || (b || c) ≡ (a || b) || c
      or_assoc true b c = refl
      or_assoc false b c = refl

  -- first_of and any_of
  pub first_none : (p : A → Bool) (xs : List A) → first_of p xs ≡ none → any_of p xs ≡ false
  unfolding first_of
  first_none p [] e = refl
  first_none p (x ∷ xs) e = go (p x) e (λ t. first_none p xs t)
    where
      go : (b : Bool) → cond b (some x) (first_of p xs) ≡ none → (first_of p xs ≡ none → any_of p xs ≡ false)
          → b || any_of p xs ≡ false
      go true t ih = absurd (let z : ◌≡◌ {A = ℕ} 0 1 = cc in let w : ⊥ = omega arith in w)
      go false t ih = ih t

  -- what is found passes
  pub first_some : (p : A → Bool) (xs : List A) (v : A) → first_of p xs ≡ some v → any_of p xs ≡ true
  unfolding first_of
  first_some p [] v e = absurd (none-ne-some v e)
  first_some p (x ∷ xs) v e = go (p x) e (λ t. first_some p xs v t)
    where
      go : (b : Bool) → cond b (some x) (first_of p xs) ≡ some v → (first_of p xs ≡ some v → any_of p xs ≡ true)
          → b || any_of p xs ≡ true
      go true t ih = refl
      go false t ih = ih t

  -- those
  pub all_those : (P Q : A → Type 0) (q : A → Bool) → ((x : A) → q x ≡ true → P x → Q x) → (xs : List A) → All P xs
      → All Q (those q xs)
  unfolding those
  all_those P Q q f [] a = tt
  all_those P Q q f (x ∷ xs) a = go (q x) refl (all_those P Q q f xs a.1)
    where
      go : (b : Bool) → q x ≡ b → All Q (those q xs) → All Q (cond b (x ∷ those q xs) (those q xs))
      go true e ih = (f x e a.0, ih)
      go false e ih = ih

  pub those_le : (q : A → Bool) (xs : List A) → length (those q xs) ≤ length xs
  unfolding those
  those_le q [] = le_refl 0
  those_le q (x ∷ xs) = go (q x) (those_le q xs)
    where
      go : (b : Bool) → length (those q xs) ≤ length xs
          → length (cond b (x ∷ those q xs) (those q xs)) ≤ suc (length xs)
      go true ih = omega arith
      go false ih = omega arith

  pub any_of_those : (p q : A → Bool) (xs : List A) → any_of p xs ≡ false → any_of p (those q xs) ≡ false
  unfolding those
  any_of_those p q [] e = refl
  any_of_those p q (x ∷ xs) e = go (p x) refl e (λ t. any_of_those p q xs t)
    where
      go : (b : Bool) → p x ≡ b → b || any_of p xs ≡ false → (any_of p xs ≡ false → any_of p (those q xs) ≡ false)
          → any_of p (cond (q x) (x ∷ those q xs) (those q xs)) ≡ false
      go true h t ih = clash true refl t
      go false h t ih = by (q x) (λ l. any_of p l ≡ false) (λ u. rw h (ih t)) (λ u. ih t)

  pub mem_those : (p : A → Bool) (xs : List A) (x : A) → p x ≡ true → Memᴰ x xs → Memᴰ x (those p xs)
  unfolding those
  mem_those p [] x h m = m
  mem_those p (y ∷ xs) x h m = go (p y) refl (Memᴰ.cases_cons m) (λ t. mem_those p xs x h t)
    where
      go : (b : Bool) → p y ≡ b → (x ≡ y) ⊎ Memᴰ x xs → (Memᴰ x xs → Memᴰ x (those p xs))
          → Memᴰ x (cond b (y ∷ those p xs) (those p xs))
      go true q (inl e) ih = Memᴰ.head e
      go true q (inr t) ih = Memᴰ.tail (ih t)
      go false q (inl e) ih = clash (p y) (ap p (sym e) ∙ h) q
      go false q (inr t) ih = ih t

  pub those_mem : (p : A → Bool) (xs : List A) (x : A) → Memᴰ x (those p xs) → Memᴰ x xs
  unfolding those
  those_mem p [] x m = m
  those_mem p (y ∷ xs) x m = go (p y) m (λ t. those_mem p xs x t)
    where
      go : (b : Bool) → Memᴰ x (cond b (y ∷ those p xs) (those p xs)) → (Memᴰ x (those p xs) → Memᴰ x xs)
          → Memᴰ x (y ∷ xs)
      go true t ih = ⊎_elim Memᴰ.head (λ r. Memᴰ.tail (ih r)) (Memᴰ.cases_cons t)
      go false t ih = Memᴰ.tail (ih t)

  pub those_those : (p q : A → Bool) (xs : List A) → those p (those q xs) ≡ those (λ x. q x && p x) xs
  unfolding those
  those_those p q [] = refl
  those_those p q (x ∷ xs) = go (q x) (those_those p q xs)
    where
      go : (b : Bool) → those p (those q xs) ≡ those (λ x. q x && p x) xs
          → those p (cond b (x ∷ those q xs) (those q xs))
          ≡ cond (b && p x) (x ∷ those (λ x. q x && p x) xs) (those (λ x. q x && p x) xs)
      go true ih = rw ih
      go false ih = ih

  pub those_alike : (p q : A → Bool) (xs : List A) → All (λ x. p x ≡ q x) xs → those p xs ≡ those q xs
  unfolding those
  those_alike p q [] a = refl
  those_alike p q (x ∷ xs) a = rw (a.0, those_alike p q xs a.1)

  pub those_each : (p : A → Bool) (xs : List A) → All (λ x. p x ≡ true) xs → those p xs ≡ xs
  unfolding those
  those_each p [] a = refl
  those_each p (x ∷ xs) a = rw (a.0, those_each p xs a.1)

  pub all_so : (P : A → Type 0) → ((x : A) → P x) → (xs : List A) → All P xs
  all_so P f [] = tt
  all_so P f (x ∷ xs) = (f x, all_so P f xs)

-- ---- lists cut at an element

module _ {A : Type 0} where
  pub all_middle : (P : A → Type 0) (xs : List A) (v : A) (ys : List A) → All P (xs ++ v ∷ ys) → P v
  all_middle P [] v ys a = a.0
  all_middle P (x ∷ xs) v ys a = all_middle P xs v ys a.1

  pub all_front : (P : A → Type 0) (xs ys : List A) → All P (xs ++ ys) → All P xs
  all_front P [] ys a = tt
  all_front P (x ∷ xs) ys a = (a.0, all_front P xs ys a.1)

  -- some number is at least each
  pub bounded : (f : A → ℕ) (xs : List A) → (k : ℕ) × All (λ x. f x ≤ k) xs
  bounded f [] = (0, tt)
  bounded f (x ∷ xs) = let (k, a) = bounded f xs in (f x + k, (omega arith, all_map _ _ (λ y h. omega arith) xs a))

  pub none_pass : (p : A → Bool) (xs : List A) → any_of p xs ≡ false → All (λ x. p x ≡ false) xs
  none_pass p [] e = tt
  none_pass p (x ∷ xs) e = let n = neither (p x) (any_of p xs) e in (n.0, none_pass p xs n.1)

  pub none_at : (p : A → Bool) (older : List A) (v : A) (newer : List A) → any_of p (older ++ v ∷ newer) ≡ false
      → p v ≡ false
  none_at p [] v newer e = (neither (p v) (any_of p newer) e).0
  none_at p (y ∷ older) v newer e = none_at p older v newer (neither (p y) (any_of p (older ++ v ∷ newer)) e).1

  -- the first that passes, between the older ones, none of which does, and the newer ones
  pub record First (p : A → Bool) (xs : List A) (v : A) : Type 0 where
    pub older : List A
    pub newer : List A
    pub there : xs ≡ older ++ v ∷ newer
    pub passes : p v ≡ true
    pub none_older : All (λ x. p x ≡ false) older

  pub first_is : (p : A → Bool) (xs : List A) (v : A) → first_of p xs ≡ some v → First p xs v
  unfolding first_of
  first_is p [] v e = absurd (none-ne-some v e)
  first_is p (y ∷ xs) v e = go (p y) refl e (λ t. first_is p xs v t)
    where
      go : (b : Bool) → p y ≡ b → cond b (some y) (first_of p xs) ≡ some v → (first_of p xs ≡ some v → First p xs v)
          → First p (y ∷ xs) v
      go true q t ih = record { older = []; newer = xs; there = cc; passes = cc; none_older = tt }
      go false q t ih =
          let f = ih t in
          record {
            older = y ∷ f.older;
            newer = f.newer;
            there = ap (λ (l : List A). y ∷ l) f.there;
            passes = f.passes;
            none_older = (q, f.none_older);
          }

  pub those_all : (p : A → Bool) (xs : List A) → any_of p xs ≡ false → those (λ x. not (p x)) xs ≡ xs
  unfolding those
  those_all p [] e = refl
  those_all p (x ∷ xs) e =
      let n = neither (p x) (any_of p xs) e in rw n.0 (ap (λ (l : List A). x ∷ l) (those_all p xs n.1))

-- how many pass
module _ {A : Type 0} where
  pub count_append : (p : A → Bool) (xs ys : List A) → count_those p (xs ++ ys) ≡ count_those p xs + count_those p ys
  unfolding count_those
  count_append p [] ys = omega arith
  count_append p (x ∷ xs) ys = omega (arith, count_append p xs ys)

  pub count_all : (xs : List A) → count_those (λ x. true) xs ≡ length xs
  unfolding count_those
  count_all [] = refl
  count_all (x ∷ xs) = omega (arith, count_all xs)

-- one is taken out, one put at the end
module _ {A : Type 0} (xs older : List A) (v : A) (newer : List A) (s : xs ≡ older ++ v ∷ newer) where
  pub others_in : (x y : A) → Memᴰ x xs → (x ≡ v) ⊎ Memᴰ x (older ++ newer ++ (y ∷ []))
  others_in x y m =
      ⊎_elim (λ a. inr (Memᴰ.append_left (y ∷ []) (Memᴰ.append_left newer a)))
      (λ b. ⊎_elim inl (λ t. inr (Memᴰ.append_left (y ∷ []) (Memᴰ.append_right older t))) (Memᴰ.cases_cons b))
      (Memᴰ.append_cases older (rw s at m))

  pub as_long : (y : A) → length (older ++ newer ++ (y ∷ [])) ≡ length xs
  as_long y = rw s (simp length-append (omega arith))

  pub count_taken : (p : A → Bool) → count_those p (older ++ newer) + cond (p v) 1 0 ≡ count_those p xs
  unfolding count_those
  count_taken p =
      omega (arith, ap (count_those p) s, count_append p older (v ∷ newer), count_append p older newer)

  pub count_swapped : (p : A → Bool) (y : A)
      → count_those p (older ++ newer ++ (y ∷ [])) + cond (p v) 1 0 ≡ count_those p xs + cond (p y) 1 0
  unfolding count_those
  count_swapped p y = omega (arith, count_taken p, count_append p (older ++ newer) (y ∷ []))

  pub one_in : Memᴰ v xs
  one_in = rw s (Memᴰ.append_right older (Memᴰ.head refl))

  pub those_in : (y : A) → Memᴰ y (older ++ newer) → Memᴰ y xs
  those_in y m =
      rw s
      (⊎_elim (λ a. Memᴰ.append_left (v ∷ newer) a) (λ b. Memᴰ.append_right older (Memᴰ.tail b))
      (Memᴰ.append_cases older m))

-- ---- lists of bytes

-- two lists of bytes are equal exactly where the test says so
pub equal_refl : (l : List ℕ) → equal l l ≡ true
unfolding equal
equal_refl [] = refl
equal_refl (x ∷ l) = both (eqb x x) (equal l l) (eq-eqb x x refl) (equal_refl l)

pub equal_is : (l m : List ℕ) → equal l m ≡ true → l ≡ m
unfolding equal
equal_is [] [] e = refl
equal_is [] (y ∷ ys) e = clash true refl (sym e)
equal_is (x ∷ xs) [] e = clash true refl (sym e)
equal_is (x ∷ xs) (y ∷ ys) e =
    λ i. eqb-true x y (and_left (eqb x y) (equal xs ys) e) i ∷ equal_is xs ys (and_right (eqb x y) (equal xs ys) e) i

-- zeros
pub zeros_pass : (k : ℕ) → all_of (λ b. eqb b 0) (replicate k 0) ≡ true
zeros_pass zero = refl
zeros_pass (suc k) = zeros_pass k

pub zeros_are : (l : List ℕ) → all_of (λ b. eqb b 0) l ≡ true → l ≡ replicate (length l) 0
zeros_are [] e = refl
zeros_are (x ∷ l) e =
    λ i. eqb-true x 0 (and_left (eqb x 0) (all_of (λ b. eqb b 0) l) e) i
    ∷ zeros_are l (and_right (eqb x 0) (all_of (λ b. eqb b 0) l) e) i

-- ---- signed numbers

pub eq_z_true : (a b : ℤ) → eq_z a b ≡ true → a ≡ b
eq_z_true (pos a) (pos b) e = ap pos (eqb-true a b e)
eq_z_true (pos a) (negsuc b) e = clash true refl (sym e)
eq_z_true (negsuc a) (pos b) e = clash true refl (sym e)
eq_z_true (negsuc a) (negsuc b) e = ap negsuc (eqb-true a b e)

pub between_from : (lo hi z : ℤ) → between lo hi z ≡ true → le_z lo z ≡ true
unfolding between
between_from lo hi z e = and_left (le_z lo z) (le_z z hi) e

pub between_to : (lo hi z : ℤ) → between lo hi z ≡ true → le_z z hi ≡ true
unfolding between
between_to lo hi z e = and_right (le_z lo z) (le_z z hi) e

pub between_is : (lo hi z : ℤ) → le_z lo z ≡ true → le_z z hi ≡ true → between lo hi z ≡ true
unfolding between
between_is lo hi z p q = both (le_z lo z) (le_z z hi) p q
