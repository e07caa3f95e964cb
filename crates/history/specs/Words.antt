-- Words on tests, and on lists whose newest element stands first: there "after" means nearer to the front.
-- Assumes nothing.
use Rattle.std.specs.Prelude.{Bool, true, false, not, ◌&&◌, ◌||◌, cond, List, [], ◌∷◌, ℕ, zero, suc}

-- where the first holds, the second does
abbrev pub implies : Bool → Bool → Bool
implies true b = b
implies false b = true

-- both hold or neither does
abbrev pub same : Bool → Bool → Bool
same true b = b
same false b = not b

-- all of these hold
unfoldable pub holds : List Bool → Bool
holds [] = true
holds (b ∷ bs) = b && holds bs

module _ {A : Type 0} where
  -- some element passes; every element passes; how many pass
  abbrev pub any_of : (A → Bool) → List A → Bool
  any_of p [] = false
  any_of p (x ∷ l) = p x || any_of p l

  abbrev pub all_of : (A → Bool) → List A → Bool
  all_of p [] = true
  all_of p (x ∷ l) = p x && all_of p l

  abbrev pub count_of : (A → Bool) → List A → ℕ
  count_of p [] = zero
  count_of p (x ∷ l) = cond (p x) (suc (count_of p l)) (count_of p l)

  -- the elements after the last that passes; all of them where none does
  abbrev pub since : (A → Bool) → List A → List A
  since p [] = []
  since p (x ∷ l) = cond (p x) [] (x ∷ since p l)

  -- some element passes together with the elements after it
  abbrev pub some_with : (List A → A → Bool) → List A → Bool
  some_with P [] = false
  some_with P (x ∷ l) = P [] x || some_with (λ after. P (x ∷ after)) l

  -- an element passes p, and the last that does passes q
  abbrev pub last_of : (A → Bool) → (A → Bool) → List A → Bool
  last_of p q [] = false
  last_of p q (x ∷ l) = cond (p x) (q x) (last_of p q l)

  -- the parts into which the elements that pass cut the list, these elements left out
  abbrev pub joined : A → List (List A) → List (List A)
  joined x [] = (x ∷ []) ∷ []
  joined x (part ∷ parts) = (x ∷ part) ∷ parts

  abbrev pub cut_at : (A → Bool) → List A → List (List A)
  cut_at p [] = [] ∷ []
  cut_at p (x ∷ l) = cond (p x) ([] ∷ cut_at p l) (joined x (cut_at p l))
