-- Laws of specs/Words.antt, in its order.
use mathlib.Core.Path.{◌≡◌, refl, ap, ap₂}
use mathlib.Core.Bool.{Bool, true, false, ◌&&◌, ◌||◌, cond}
use mathlib.Core.List.{List, [], ◌∷◌, ◌++◌, tail}
use Prim.Native.Nat.{ℕ, zero, suc}
use lib.ListN.{get_or}
use Rattle.history.specs.Words.{holds, any_of, all_of, count_of, since, some_with, joined, cut_at}

-- ---- tests

pub and_left : (a b : Bool) → a && b ≡ true → a ≡ true
and_left true b e = refl
and_left false b e = e

pub and_right : (a b : Bool) → a && b ≡ true → b ≡ true
and_right true b e = e
and_right false b e = cc

pub both : (a b : Bool) → a ≡ true → b ≡ true → a && b ≡ true
both a b p q = rw (p, q)

pub and_true : (a : Bool) → a && true ≡ a
and_true true = refl
and_true false = refl

pub and_false : (a : Bool) → a && false ≡ false
and_false true = refl
and_false false = refl

pub and_assoc : (a b c : Bool) → a && (b && c) ≡ (a && b) && c
and_assoc true b c = refl
and_assoc false b c = refl

or_and : (a b c : Bool) → (a && c) || (b && c) ≡ (a || b) && c
or_and true b true = refl
or_and true true false = refl
or_and true false false = refl
or_and false b c = refl

-- where x implies y, said as x ≡ x && y, the order of the tests is free
swapped : (x y t : Bool) → x ≡ x && y → x && t ≡ (y && t) && x
swapped true true true e = refl
swapped true true false e = refl
swapped true false t e = cc
swapped false true true e = refl
swapped false true false e = refl
swapped false false t e = refl

-- ---- holds

-- each clause of a list that holds
pub part : (l : List Bool) → holds l ≡ true → (i : ℕ) → get_or l i true ≡ true
unfolding holds
part [] e i = refl
part (b ∷ bs) e zero = and_left b (holds bs) e
part (b ∷ bs) e (suc i) = part bs (and_right b (holds bs) e) i

-- a list each clause of which holds
abbrev pub Each : List Bool → Type 0
Each [] = Unit {0}
Each (b ∷ bs) = (b ≡ true) × Each bs

pub parts : (l : List Bool) → Each l → holds l ≡ true
unfolding holds
parts [] e = refl
parts (b ∷ bs) e = both b (holds bs) e.0 (parts bs e.1)

module _ {A : Type 0} where
  -- ---- some_with

  pub some_with_cong : (P Q : List A → A → Bool) (l : List A)
      → ((a : List A) (x : A) (r : List A) → l ≡ a ++ x ∷ r → P a x ≡ Q a x) → some_with P l ≡ some_with Q l
  some_with_cong P Q [] e = refl
  some_with_cong P Q (x ∷ l) e =
      ap₂ ◌||◌ (e [] x l refl)
      (some_with_cong (λ a. P (x ∷ a)) (λ a. Q (x ∷ a)) l (λ a y r q. e (x ∷ a) y r (ap (λ z. x ∷ z) q)))

  pub some_with_and : (P : List A → A → Bool) (c : Bool) (l : List A)
      → some_with (λ a x. P a x && c) l ≡ some_with P l && c
  some_with_and P c [] = refl
  some_with_and P c (x ∷ l) = rw (some_with_and (λ a. P (x ∷ a)) c l) (or_and (P [] x) (some_with (λ a. P (x ∷ a)) l) c)

  pub some_with_none : (l : List A) → some_with (λ a x. false) l ≡ false
  some_with_none [] = refl
  some_with_none (x ∷ l) = some_with_none l

  -- ---- since

  -- nothing before an element that passes matters
  pub since_front : (p : A → Bool) (a : List A) (x : A) (r : List A) → p x ≡ true → since p (a ++ x ∷ r) ≡ since p a
  since_front p [] x r e = rw e
  since_front p (y ∷ a) x r e = rw (since_front p a x r e)

  -- ---- cut_at

  -- the newest part is what lies after the last cut
  pub cut_at_newest : (p : A → Bool) (l : List A) → cut_at p l ≡ since p l ∷ tail (cut_at p l)
  cut_at_newest p [] = refl
  cut_at_newest p (x ∷ l) = go (p x) (cut_at_newest p l)
    where
      go : (b : Bool) → cut_at p l ≡ since p l ∷ tail (cut_at p l)
          → cond b ([] ∷ cut_at p l) (joined x (cut_at p l))
          ≡ cond b [] (x ∷ since p l) ∷ tail (cond b ([] ∷ cut_at p l) (joined x (cut_at p l)))
      go true e = refl
      go false e = rw e

  module _ (p : A → Bool) (ok : List A → Bool) where
    -- one element more that is no cut, for a test that a longer part passes only where the shorter does
    pub all_of_cut_at : (m : A) (a : List A) → p m ≡ false → ((s : List A) → ok (m ∷ s) ≡ ok (m ∷ s) && ok s)
        → all_of ok (cut_at p (m ∷ a)) ≡ all_of ok (cut_at p a) && ok (m ∷ since p a)
    all_of_cut_at m a e mono =
        rw (e, cut_at_newest p a)
        (swapped (ok (m ∷ since p a)) (ok (since p a)) (all_of ok (tail (cut_at p a))) (mono (since p a)))

  module _ (p f : A → Bool) where
    -- how many parts hold an element that passes f, after one element more

    pub parts_other : (m : A) (a : List A) → p m ≡ false → f m ≡ false
        → count_of (any_of f) (cut_at p (m ∷ a)) ≡ count_of (any_of f) (cut_at p a)
    parts_other m a e k = rw (e, cut_at_newest p a, k)

    pub parts_more : (m : A) (a : List A) → p m ≡ false → f m ≡ true
        → count_of (any_of f) (cut_at p (m ∷ a))
        ≡ cond (any_of f (since p a)) (count_of (any_of f) (cut_at p a)) (suc (count_of (any_of f) (cut_at p a)))
    parts_more m a e k = rw (e, cut_at_newest p a, k) (go (any_of f (since p a)) (count_of (any_of f) (tail (cut_at p a))))
      where
        go : (b : Bool) (c : ℕ) → suc c ≡ cond b (cond b (suc c) c) (suc (cond b (suc c) c))
        go true c = refl
        go false c = refl
