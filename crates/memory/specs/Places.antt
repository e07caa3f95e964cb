-- A place in memory: an entry's index among the entries, the oldest at place 0. Assumes nothing.
use Rattle.std.specs.Prelude.{Bool, false, cond, List, [], ◌∷◌, ℕ, ◌+◌, get_or, Option, Some, None}
use Rattle.manual.specs.declared.Place.{Place}
use Rattle.manual.specs.Memory.{Entry, bytes_in_use, is_of, outranked, resting}

-- where the frames of the entry at a place start: behind "event number (2 bytes, high first), occurrence count (1 to
-- 255)"
abbrev pub frame_at : ℕ → Place → ℕ
frame_at F p = bytes_in_use F p.0 + 3

-- the entry at a place; no entry stands at a place past the last
abbrev pub blank : Entry
blank = record { high = 0; low = 0; count = 0; payload = [] }

abbrev pub at_place : ℕ → List Entry → Entry
at_place p xs = get_or xs p blank

-- where an entry was found, if one was
abbrev pub Find : Type 0
Find = Option Place

-- the place of the first entry that passes, where the first of these entries stands at place i
unfoldable pub first_place_from : (Entry → Bool) → ℕ → List Entry → Find
first_place_from q i [] = None
first_place_from q i (x ∷ xs) = cond (q x) (Some (record { 0 = i })) (first_place_from q (i + 1) xs)

abbrev pub first_place : (Entry → Bool) → List Entry → Find
first_place q xs = first_place_from q 0 xs

-- the place of event e's entry
abbrev pub place_of : ℕ → List Entry → Find
place_of e xs = first_place (is_of e) xs

abbrev pub or_else_place : Find → Find → Find
or_else_place (Some p) b = Some p
or_else_place None b = b

-- the manual's tests for the victim of a fresh failure of event e; neither the number of places nor the frame has a say
-- in them
abbrev pub outranks : (ℕ → ℕ) → ℕ → List Entry → Entry → Bool
outranks priority e xs x = outranked 0 priority (λ k. false) e [] xs x

abbrev pub rests : (ℕ → ℕ) → (ℕ → Bool) → ℕ → Entry → Bool
rests priority quiet e x = resting 0 priority quiet e [] x

-- the manual's `victim`, by its place
unfoldable pub victim_place : (ℕ → ℕ) → (ℕ → Bool) → ℕ → List Entry → Find
victim_place priority quiet e xs =
    or_else_place (first_place (outranks priority e xs) xs) (first_place (rests priority quiet e) xs)
