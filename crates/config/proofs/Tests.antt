-- Laws of tests and of `all_below` as code makes them: joined one after the other, gathered in a loop.
use mathlib.Core.Path.{◌≡◌, refl, sym, ◌∙◌}
use mathlib.Core.Bool.{Bool, true, false, ◌&&◌}
use mathlib.Core.List.{List, [], ◌∷◌, ◌++◌}
use Prim.Native.Nat.{ℕ, zero, suc, ◌+◌}
use native.Mathlib.Numerals.{add-one}
use Rattle.history.specs.Words.{holds}
use Rattle.history.proofs.WordsLaws.{and_true, and_false, and_assoc}
use Rattle.manual.specs.Words.{all_below}

-- a & b & c & …
abbrev pub joined : Bool → List Bool → Bool
joined a [] = a
joined a (b ∷ bs) = joined (a && b) bs

pub joined_is : (a : Bool) (bs : List Bool) → joined a bs ≡ holds (a ∷ bs)
unfolding holds
joined_is a [] = rw (and_true a)
joined_is a (b ∷ bs) = rw (joined_is (a && b) bs, and_assoc a b (holds bs))

pub holds_both : (xs ys : List Bool) → holds xs && holds ys ≡ holds (xs ++ ys)
unfolding holds
holds_both [] ys = refl
holds_both (x ∷ xs) ys = rw (← and_assoc x (holds xs) (holds ys), holds_both xs ys)

-- tests that are joined on their own, amid others; x stands for them where the test before it holds
pub joined_amid : {r : Bool} (a b c d x : Bool) (xs ys : List Bool) → d && x ≡ d && holds xs
    → r ≡ joined a (b ∷ c ∷ d ∷ x ∷ ys) → r ≡ holds (a ∷ b ∷ c ∷ d ∷ (xs ++ ys))
unfolding holds
joined_amid a b c d x xs ys e p = p ∙ joined_is a (b ∷ c ∷ d ∷ x ∷ ys) ∙ (λ i. a && (b && (c && amid i)))
  where
    amid : d && (x && holds ys) ≡ d && holds (xs ++ ys)
    amid = rw (and_assoc d x (holds ys), e, ← and_assoc d (holds xs) (holds ys), holds_both xs ys)

-- a loop that gathers a test of each number below n
pub all_none : (f : ℕ → Bool) → all_below 0 f ≡ true
unfolding all_below
all_none f = refl

pub all_more : (n : ℕ) (f : ℕ → Bool) → all_below (n + 1) f ≡ all_below n f && f n
unfolding all_below
all_more n f = rw add-one

pub all_both : (n : ℕ) (f g : ℕ → Bool) → all_below n (λ e. f e && g e) ≡ all_below n f && all_below n g
unfolding all_below
all_both zero f g = refl
all_both (suc n) f g = rw (all_both n f g) (swapped (all_below n f) (all_below n g) (f n) (g n))
  where
    swapped : (a b c d : Bool) → (a && b) && (c && d) ≡ (a && c) && (b && d)
    swapped true true c d = refl
    swapped true false c d = sym (and_false c)
    swapped false b c d = refl
