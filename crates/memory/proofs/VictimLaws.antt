-- The search for "among entries whose priority number is greater than e's, the greatest, and the oldest among equals":
-- what its loop keeps, turn by turn, and that its end is the place that the manual's tests name.
use mathlib.Core.Path.{◌≡◌, refl, sym, subst, ◌∙◌}
use mathlib.Core.Logic.{⊎_elim}
use mathlib.Core.Bool.{Bool, true, false, ◌&&◌, not-eq-not}
use mathlib.Core.List.{List}
use mathlib.Core.Option.{Option, none, some}
use Prim.Native.Nat.{ℕ, ◌+◌, ◌≤◌, ◌<◌}
use native.Mathlib.Nat.{not-suc-le-zero, eq-or-lt_of_le, le_of_suc-le-suc}
use native.Mathlib.Numerals.{add-one}
use native.Mathlib.Omega.{arith}
use lib.Dec.{ltb, leb, eqb}
use lib.ListN.{length}
use borrow.Author.Tests.{ltb-true, leb-true, lt-ltb, le-leb}
use Rattle.history.proofs.WordsLaws.{and_left, and_right, both}
use Rattle.manual.specs.declared.Place.{Place}
use Rattle.manual.specs.Words.{first_of, or_else}
use Rattle.manual.specs.Memory.{Entry, event_of, victim}
use Rattle.memory.specs.Places.{Find}
use Rattle.std.specs.Prelude.{Some, None}
use Rattle.memory.specs.Places.{at_place, first_place, or_else_place, outranks, rests, victim_place}
use Rattle.memory.proofs.PlacesLaws.{Finds, first_finds, all_places, at_each_place}
use Rattle.memory.proofs.PlacesLaws.{first_place_is, first_place_none}

-- ---- the loop: f gives the priority number of the entry at each place

-- place v holds the greatest of the first i, greater than the limit, and the oldest among equals
pub record Greatest (f : ℕ → ℕ) (limit i v top : ℕ) : Type 0 where
  pub passed : v < i
  pub is : top ≡ f v
  pub above : limit < top
  pub most : (k : ℕ) → k < i → f k ≤ top
  pub first : (k : ℕ) → k < v → f k < top

abbrev pub Best : (ℕ → ℕ) → ℕ → ℕ → Find → ℕ → Type 0
Best f limit i (Some v) top = Greatest f limit i v.0 top
Best f limit i None top = (top ≡ limit) × ((k : ℕ) → k < i → f k ≤ limit)

one_further : {P : ℕ → Type 0} (i : ℕ) → ((k : ℕ) → k < i → P k) → P i → (k : ℕ) → k < i + 1 → P k
one_further {P} i h e k l =
    ⊎_elim (λ q. subst P (sym q) e) (λ q. h k q) (eq-or-lt_of_le (le_of_suc-le-suc (rw add-one at l)))

module _ (f : ℕ → ℕ) (limit : ℕ) where
  pub best_of_none : Best f limit 0 None limit
  best_of_none = (refl, λ k h. absurd (not-suc-le-zero h))

  module _ (i : ℕ) where
    pub best_stays : (best : Find) (top : ℕ) → Best f limit i best top → f i ≤ top → Best f limit (i + 1) best top
    best_stays (Some v) top b l = record {
      passed = let h = b.passed in omega arith;
      is = b.is;
      above = b.above;
      most = one_further {P = λ k. f k ≤ top} i b.most l;
      first = b.first;
    }
    best_stays None top b l = (b.0, one_further {P = λ k. f k ≤ limit} i b.1 (omega arith))

    pub best_changes : (best : Find) (top : ℕ) → Best f limit i best top → top < f i → Greatest f limit (i + 1) i (f i)
    best_changes best top b l = record {
      passed = omega arith;
      is = refl;
      above = over_limit best b;
      most = one_further {P = λ k. f k ≤ f i} i (λ k h. let q = lower best b k h in omega arith) (omega arith);
      first = lower best b;
    }
      where
        over_limit : (best : Find) → Best f limit i best top → limit < f i
        over_limit (Some v) b = let h = b.above in omega arith
        over_limit None b = let h = b.0 in omega arith

        lower : (best : Find) → Best f limit i best top → (k : ℕ) → k < i → f k < f i
        lower (Some v) b k h = let q = b.most k h in omega arith
        lower None b k h = let q = b.1 k h in let t = b.0 in omega arith

-- ---- its end

abbrev pub priority_at : (ℕ → ℕ) → List Entry → ℕ → ℕ
priority_at priority xs k = priority (event_of (at_place k xs))

module _ (priority : ℕ → ℕ) (e : ℕ) (xs : List Entry) where
  refused : (k : ℕ) → (outranks priority e xs (at_place k xs) ≡ true → ⊥) → outranks priority e xs (at_place k xs) ≡ false
  refused k n = not-eq-not.0 n

  pub best_is_first : (best : Find) (top : ℕ) → Best (priority_at priority xs) (priority e) (length xs) best top
      → first_place (outranks priority e xs) xs ≡ best
  best_is_first (Some v) top b =
      first_place_is (outranks priority e xs) xs v b.passed
      (both _ _ (lt-ltb (priority e) (priority_at priority xs v.0) (omega (arith, b.is, b.above)))
      (all_places (λ y. leb (priority (event_of y)) (priority_at priority xs v.0)) xs
      (λ k h. le-leb (priority_at priority xs k) (priority_at priority xs v.0) (omega (arith, b.is, b.most k h)))))
      (λ k h. refused k (λ t.
      let l : priority_at priority xs v.0 ≤ priority_at priority xs k =
      leb-true _ _
      (at_each_place (λ y. leb (priority (event_of y)) (priority_at priority xs k)) xs
      (and_right (ltb (priority e) (priority_at priority xs k)) _ t) v.0 b.passed) in
      omega (arith, b.is, b.first k h)))
  best_is_first None top b =
      first_place_none (outranks priority e xs) xs
      (λ k h. refused k
      (λ t. let l : priority e < priority_at priority xs k = ltb-true _ _
      (and_left (ltb (priority e) (priority_at priority xs k)) _ t) in omega (arith, b.1 k h)))

-- ---- "the oldest entry of equal priority number whose event has bit 0 clear", the priority number being p

abbrev pub rests_at : (ℕ → ℕ) → (ℕ → Bool) → ℕ → Entry → Bool
rests_at priority quiet p x = eqb (priority (event_of x)) p && quiet (event_of x)

-- ---- the victim and its place

-- the entry at a place
abbrev pub entry_in : List Entry → Find → Option Entry
entry_in xs (Some p) = some (at_place p.0 xs)
entry_in xs None = none

finds_entry : (q : Entry → Bool) (xs : List Entry) (r : Find) → Finds q xs r → first_of q xs ≡ entry_in xs r
finds_entry q xs (Some p) f = f.first
finds_entry q xs None f = f

pub first_entry : (q : Entry → Bool) (xs : List Entry) → first_of q xs ≡ entry_in xs (first_place q xs)
first_entry q xs = finds_entry q xs (first_place q xs) (first_finds q xs)

else_entry : (xs : List Entry) (a b : Find) → or_else (entry_in xs a) (entry_in xs b) ≡ entry_in xs (or_else_place a b)
else_entry xs (Some p) b = refl
else_entry xs None b = refl

abbrev pub Inside : List Entry → Find → Type 0
Inside xs (Some p) = p.0 < length xs
Inside xs None = Unit {0}

finds_inside : (q : Entry → Bool) (xs : List Entry) (r : Find) → Finds q xs r → Inside xs r
finds_inside q xs (Some p) f = f.inside
finds_inside q xs None f = tt

first_inside : (q : Entry → Bool) (xs : List Entry) → Inside xs (first_place q xs)
first_inside q xs = finds_inside q xs (first_place q xs) (first_finds q xs)

else_inside : (xs : List Entry) (a b : Find) → Inside xs a → Inside xs b → Inside xs (or_else_place a b)
else_inside xs (Some p) b h k = h
else_inside xs None b h k = k

module _ (M : ℕ) (priority : ℕ → ℕ) (quiet : ℕ → Bool) (e : ℕ) (frame : List ℕ) (xs : List Entry) where
  pub victim_entry : victim M priority quiet e frame xs ≡ entry_in xs (victim_place priority quiet e xs)
  unfolding victim victim_place
  victim_entry =
      (λ i. or_else (first_entry (outranks priority e xs) xs i) (first_entry (rests priority quiet e) xs i))
      ∙ else_entry xs (first_place (outranks priority e xs) xs) (first_place (rests priority quiet e) xs)

  pub victim_inside : (p : Place) → victim_place priority quiet e xs ≡ Some p → p.0 < length xs
  unfolding victim_place
  victim_inside p h =
      subst (Inside xs) h
      (else_inside xs (first_place (outranks priority e xs) xs) (first_place (rests priority quiet e) xs)
      (first_inside (outranks priority e xs) xs) (first_inside (rests priority quiet e) xs))
