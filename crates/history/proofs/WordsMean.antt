-- The words of specs/Words.antt mean what their comments say, in terms of how a list falls into what lies after an
-- element, the element, and what lies before it; and a moment of a history is such a place of the history.
use mathlib.Core.Path.{◌≡◌, refl, ap}
use mathlib.Core.Logic.{◌⊎◌, inl, inr}
use mathlib.Core.Bool.{Bool, true, false, not, ◌&&◌, ◌||◌, cond}
use mathlib.Core.List.{List, [], ◌∷◌, ◌++◌}
use Prim.Native.Nat.{suc, ◌+◌}
use native.Mathlib.Omega.{arith}
use lib.Dec.{T}
use lib.ListN.{length}
use Rattle.history.specs.Words.{any_of, all_of, count_of, since, some_with, last_of, cut_at}
use Rattle.history.specs.History.{Token, History, Moment, moments}
use Rattle.history.proofs.Runs.{moment}

or_cases : (a b : Bool) → T (a || b) → T a ⊎ T b
or_cases true b t = inl tt
or_cases false b t = inr t

or_left : (a b : Bool) → T a → T (a || b)
or_left true b t = tt
or_left false b t = absurd t

or_right : (a b : Bool) → T b → T (a || b)
or_right true b t = tt
or_right false b t = t

neither_left : (a b : Bool) → a || b ≡ false → a ≡ false
neither_left true b e = e
neither_left false b e = refl

neither_right : (a b : Bool) → a || b ≡ false → b ≡ false
neither_right true b e = cc
neither_right false b e = e

module _ {A : Type 0} where
  -- the list falls apart at an element that passes together with what lies after it
  abbrev pub Split : (List A → A → Bool) → List A → Type 0
  Split P l = (after : List A) × (x : A) × (before : List A) × (l ≡ after ++ x ∷ before) × T (P after x)

  -- some_with P: exactly where there is such an element
  pub some_with_split : (P : List A → A → Bool) (l : List A) → T (some_with P l) → Split P l
  some_with_split P [] t = absurd t
  some_with_split P (x ∷ l) t =
      go (or_cases (P [] x) (some_with (λ a. P (x ∷ a)) l) t) (some_with_split (λ a. P (x ∷ a)) l)
    where
      go : T (P [] x) ⊎ T (some_with (λ a. P (x ∷ a)) l) → (T (some_with (λ a. P (x ∷ a)) l) → Split (λ a. P (x ∷ a)) l)
          → Split P (x ∷ l)
      go (inl u) ih = ([], x, l, refl, u)
      go (inr u) ih = let (a, y, b, e, v) = ih u in (x ∷ a, y, b, ap (λ z. x ∷ z) e, v)

  pub split_some_with : (P : List A → A → Bool) (after : List A) (x : A) (before : List A) → T (P after x)
      → T (some_with P (after ++ x ∷ before))
  split_some_with P [] x b t = or_left (P [] x) (some_with (λ a. P (x ∷ a)) b) t
  split_some_with P (y ∷ a) x b t =
      or_right (P [] y) (some_with (λ a. P (y ∷ a)) (a ++ x ∷ b)) (split_some_with (λ a. P (y ∷ a)) a x b t)

  module _ (p : A → Bool) where
    -- any_of p: some element passes, whatever lies after it
    pub any_of_is : (l : List A) → any_of p l ≡ some_with (λ after x. p x) l
    any_of_is [] = refl
    any_of_is (x ∷ l) = ap (λ t. p x || t) (any_of_is l)

    -- all_of p: no element fails
    pub all_of_is : (l : List A) → all_of p l ≡ not (any_of (λ x. not (p x)) l)
    all_of_is [] = refl
    all_of_is (x ∷ l) = rw (all_of_is l) (table (p x) (any_of (λ y. not (p y)) l))
      where
        table : (a b : Bool) → a && not b ≡ not (not a || b)
        table true b = refl
        table false b = refl

    -- count_of p: two parts count together
    pub count_of_append : (a b : List A) → count_of p (a ++ b) ≡ count_of p a + count_of p b
    count_of_append [] b = omega arith
    count_of_append (x ∷ a) b = rw (count_of_append a b) (go (p x))
      where
        go : (c : Bool)
            → cond c (suc (count_of p a + count_of p b)) (count_of p a + count_of p b)
            ≡ cond c (suc (count_of p a)) (count_of p a) + count_of p b
        go true = omega arith
        go false = refl

    -- since p: what lies after the last that passes, or all
    pub since_last : (after : List A) (x : A) (before : List A) → any_of p after ≡ false → p x ≡ true
        → since p (after ++ x ∷ before) ≡ after
    since_last [] x b t e = rw e
    since_last (y ∷ a) x b t e =
        rw (neither_left (p y) (any_of p a) t, since_last a x b (neither_right (p y) (any_of p a) t) e)

    pub since_none : (l : List A) → any_of p l ≡ false → since p l ≡ l
    since_none [] t = refl
    since_none (y ∷ l) t = rw (neither_left (p y) (any_of p l) t, since_none l (neither_right (p y) (any_of p l) t))

    -- last_of p q: q of the last that passes p, and false where none does
    pub last_of_last : (q : A → Bool) (after : List A) (x : A) (before : List A) → any_of p after ≡ false → p x ≡ true
        → last_of p q (after ++ x ∷ before) ≡ q x
    last_of_last q [] x b t e = rw e
    last_of_last q (y ∷ a) x b t e =
        rw (neither_left (p y) (any_of p a) t) (last_of_last q a x b (neither_right (p y) (any_of p a) t) e)

    pub last_of_none : (q : A → Bool) (l : List A) → any_of p l ≡ false → last_of p q l ≡ false
    last_of_none q [] t = refl
    last_of_none q (y ∷ l) t =
        rw (neither_left (p y) (any_of p l) t) (last_of_none q l (neither_right (p y) (any_of p l) t))

    -- cut_at p: a part ends at each that passes, and only there
    pub cut_at_last : (a : List A) (x : A) (b : List A) → any_of p a ≡ false → p x ≡ true
        → cut_at p (a ++ x ∷ b) ≡ a ∷ cut_at p b
    cut_at_last [] x b t e = rw e
    cut_at_last (y ∷ a) x b t e =
        rw (neither_left (p y) (any_of p a) t, cut_at_last a x b (neither_right (p y) (any_of p a) t) e)

    pub cut_at_none : (l : List A) → any_of p l ≡ false → cut_at p l ≡ l ∷ []
    cut_at_none [] t = refl
    cut_at_none (y ∷ l) t = rw (neither_left (p y) (any_of p l) t, cut_at_none l (neither_right (p y) (any_of p l) t))

-- the moment of a token in a history: as many moments after it as tokens, and before it what lay before it
pub moments_at : (after : History) (t : Token) (before : History)
    → (ms : List Moment) × (moments (after ++ t ∷ before) ≡ ms ++ moment t before ∷ moments before) ×
    (length ms ≡ length after)
unfolding moments
moments_at [] t b = ([], refl, refl)
moments_at (x ∷ a) t b =
    let (ms, e, k) = moments_at a t b in (moment x (a ++ t ∷ b) ∷ ms, ap (λ z. moment x (a ++ t ∷ b) ∷ z) e, ap suc k)
