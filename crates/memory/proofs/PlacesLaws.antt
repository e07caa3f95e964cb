-- Laws of specs/Places.antt and specs/Fits.antt: where entries lie within their block, an entry's bytes by its place,
-- and the searches by place, turn by turn.
use mathlib.Core.Path.{◌≡◌, refl, sym, ap, subst, ◌∙◌}
use mathlib.Core.Bool.{Bool, true, false, cond}
use mathlib.Core.List.{List, [], ◌∷◌}
use mathlib.Core.Option.{none, some}
use Prim.Native.Nat.{ℕ, zero, suc, ◌+◌, ◌*◌, ◌≤◌, ◌<◌, zero-le, suc-le-suc}
use native.Mathlib.Nat.{mul-suc, mul-zero, mul-le-mul_left, add_comm, add-zero, not-suc-le-zero, le_of_suc-le-suc}
use native.Mathlib.Numerals.{add-one}
use native.Mathlib.Omega.{arith}
use lib.Dec.{ltb}
use lib.ListN.{length, take, drop, get_or, length-drop, drop_of_length-le}
use lib.Seq.{drop-drop, get_or-drop, drop-cons, length-take-le}
use borrow.Author.Tests.{ltb-true}
use Rattle.history.specs.Words.{all_of}
use Rattle.history.proofs.WordsLaws.{and_left, and_right, both}
use Rattle.manual.specs.declared.Place.{Place}
use Rattle.manual.specs.Words.{first_of}
use Rattle.manual.specs.Configuration.{Configuration, entry_frames, config_ok}
use Rattle.manual.specs.State.{State}
use Rattle.manual.specs.WellFormed.{well_formed}
use Rattle.manual.specs.Memory.{Entry, event_of, entry_width, entry_at, entry_count, bytes_in_use, entries_from, entries_of}
use Rattle.manual.proofs.ConfigurationLaws.{config_tells}
use Rattle.manual.proofs.MemoryLaws.{entries_length}
use Rattle.manual.proofs.WellFormedLaws.{state_tells, used_fits}
use Rattle.memory.specs.Places.{Find}
use Rattle.std.specs.Prelude.{Some, None}
use Rattle.memory.specs.Places.{blank, at_place, first_place_from, first_place}
use Rattle.memory.specs.Fits.{EntriesFit, PlaceFits, EventsFit}

-- ---- the entries of a well-formed state

pub entries_fit : (cfg : Configuration) (s : State) → config_ok cfg ≡ true → well_formed cfg s ≡ true
    → EntriesFit (entry_frames cfg) s.memory
entries_fit cfg s ok formed =
    let t = config_tells cfg ok in
    let tells = state_tells cfg s formed in
    let most = t.M_most in
    let few = tells.few in
    record { payload_most = t.payload_most; count_most = omega arith; within = used_fits cfg s tells }

-- ---- the bytes of the entry at a place

-- the entry at place p ends where that at place p + 1 begins
pub next_start : (F p : ℕ) → bytes_in_use F (suc p) ≡ bytes_in_use F p + entry_width F
next_start F p = omega (arith, mul-suc (entry_width F) p)

pub starts_rise : (F p n : ℕ) → p ≤ n → bytes_in_use F p ≤ bytes_in_use F n
starts_rise F p n h = omega (arith, mul-le-mul_left (entry_width F) h)

pub entry_within : (F p : ℕ) (m : List ℕ) → PlaceFits F m p → bytes_in_use F p + entry_width F ≤ length m
entry_within F p m f =
    omega (arith, next_start F p, starts_rise F (suc p) (entry_count m) f.below, f.entries.within)

entry_from : (F n : ℕ) (m : List ℕ) (p : ℕ) → p < n
    → at_place p (entries_from F n m) ≡ entry_at F (drop (entry_width F * p) m)
unfolding entries_from
entry_from F zero m p h = absurd (not-suc-le-zero h)
entry_from F (suc n) m zero h = rw (mul-zero (entry_width F))
entry_from F (suc n) m (suc p) h =
    entry_from F n (drop (entry_width F) m) p (le_of_suc-le-suc h)
    ∙ ap (entry_at F)
    (drop-drop (entry_width F * p) (entry_width F) m
    ∙ ap (λ (k : ℕ). drop k m) (sym (mul-suc (entry_width F) p ∙ add_comm _ _)))

module _ (F : ℕ) (m : List ℕ) where
  pub entries_are_count : length (entries_of F m) ≡ entry_count m
  unfolding entries_of
  entries_are_count = entries_length F (entry_count m) (drop 1 m)

  module _ (p : ℕ) (h : p < entry_count m) where
    entry_is : at_place p (entries_of F m) ≡ entry_at F (drop (bytes_in_use F p) m)
    unfolding entries_of
    entry_is = entry_from F (entry_count m) (drop 1 m) p h ∙ ap (entry_at F) (drop-drop (entry_width F * p) 1 m)

    pub event_is_at : event_of (at_place p (entries_of F m))
        ≡ get_or m (bytes_in_use F p) 0 * 256 + get_or m (bytes_in_use F p + 1) 0
    event_is_at =
        ap event_of entry_is
        ∙ (λ i. get_or-drop (bytes_in_use F p) m 0 0 i * 256 + get_or-drop (bytes_in_use F p) m 1 0 i)
        ∙ ap (λ (k : ℕ). get_or m k 0 * 256 + get_or m (bytes_in_use F p + 1) 0) (add-zero (bytes_in_use F p))

    pub count_is_at : (at_place p (entries_of F m)).count ≡ get_or m (bytes_in_use F p + 2) 0
    count_is_at = ap (λ (x : Entry). x.count) entry_is ∙ get_or-drop (bytes_in_use F p) m 2 0

    pub frame_is_at : (at_place p (entries_of F m)).payload ≡ take F (drop (bytes_in_use F p + 3) m)
    frame_is_at = ap (λ (x : Entry). x.payload) entry_is ∙ ap (take F) (drop-drop 3 (bytes_in_use F p) m)

pub payload_long : (F p : ℕ) (m : List ℕ) → PlaceFits F m p → length (at_place p (entries_of F m)).payload ≡ F
payload_long F p m f =
    ap length (frame_is_at F m p f.below)
    ∙ length-take-le F (drop (bytes_in_use F p + 3) m)
    (omega (arith, length-drop (bytes_in_use F p + 3) m, entry_within F p m f))

-- n bytes of it, where it was read as l
pub front_long : (F p : ℕ) (m l : List ℕ) (n : ℕ) → PlaceFits F m p → l ≡ (at_place p (entries_of F m)).payload → n ≤ F
    → length (take n l) ≡ n
front_long F p m l n f e h = length-take-le n l (omega (arith, ap length e, payload_long F p m f, h))

-- ---- a search by place, turn by turn

pub next_entry : (xs : List Entry) (i : ℕ) → i < length xs → drop i xs ≡ at_place i xs ∷ drop (i + 1) xs
next_entry xs i h = drop-cons xs i blank h ∙ ap (λ (k : ℕ). at_place i xs ∷ drop k xs) (sym (add-one i))

module _ (q : Entry → Bool) (xs : List Entry) (i : ℕ) where
  first_turn : i < length xs
      → first_place_from q i (drop i xs)
      ≡ cond (q (at_place i xs)) (Some (record { 0 = i })) (first_place_from q (i + 1) (drop (i + 1) xs))
  unfolding first_place_from
  first_turn h = ap (first_place_from q i) (next_entry xs i h)

  pub first_hit : i < length xs → q (at_place i xs) ≡ true → first_place_from q i (drop i xs) ≡ Some (record { 0 = i })
  first_hit h e = first_turn h ∙ rw e refl

  pub first_miss : i < length xs → q (at_place i xs) ≡ false
      → first_place_from q i (drop i xs) ≡ first_place_from q (i + 1) (drop (i + 1) xs)
  first_miss h e = first_turn h ∙ rw e refl

  pub first_end : length xs ≤ i → first_place_from q i (drop i xs) ≡ None
  unfolding first_place_from
  first_end h = ap (first_place_from q i) (drop_of_length-le xs {i = i} h)

-- ---- what a search by place finds

-- the first entry that passes stands at place p
pub record Found (q : Entry → Bool) (xs : List Entry) (p : ℕ) : Type 0 where
  pub inside : p < length xs
  pub passes : q (at_place p xs) ≡ true
  pub first : first_of q xs ≡ some (at_place p xs)

abbrev pub Finds : (Entry → Bool) → List Entry → Find → Type 0
Finds q xs (Some p) = Found q xs p.0
Finds q xs None = first_of q xs ≡ none

-- the same entry, one place later
abbrev later : Find → Find
later (Some p) = Some (record { 0 = suc p.0 })
later None = None

later_is : (q : Entry → Bool) (i : ℕ) (xs : List Entry) → first_place_from q (i + 1) xs ≡ later (first_place_from q i xs)
unfolding first_place_from
later_is q i [] = refl
later_is q i (x ∷ xs) = rw (later_is q (i + 1) xs) (go (q x))
  where
    go : (b : Bool)
        → cond b (Some (record { 0 = i + 1 })) (later (first_place_from q (i + 1) xs))
        ≡ later (cond b (Some (record { 0 = i })) (first_place_from q (i + 1) xs))
    go true = ap (λ (k : ℕ). Some (record { 0 = k })) (add-one i)
    go false = refl

later_finds : (q : Entry → Bool) (x : Entry) (xs : List Entry) (r : Find) → q x ≡ false → Finds q xs r
    → Finds q (x ∷ xs) (later r)
unfolding first_of
later_finds q x xs (Some p) e f = record { inside = suc-le-suc f.inside; passes = f.passes; first = rw e f.first }
later_finds q x xs None e f = rw e f

pub first_finds : (q : Entry → Bool) (xs : List Entry) → Finds q xs (first_place q xs)
unfolding first_place_from first_of
first_finds q [] = refl
first_finds q (x ∷ xs) = rw (later_is q 0 xs) (go (first_finds q xs) (q x) refl)
  where
    go : Finds q xs (first_place q xs) → (b : Bool) → q x ≡ b
        → Finds q (x ∷ xs) (cond b (Some (record { 0 = 0 })) (later (first_place q xs)))
    go f true e = record { inside = suc-le-suc zero-le; passes = e; first = rw e refl }
    go f false e = later_finds q x xs (first_place q xs) e f

pub found : (q : Entry → Bool) (xs : List Entry) (p : Place) → first_place q xs ≡ Some p → Found q xs p.0
found q xs p e = subst (Finds q xs) e (first_finds q xs)

pub found_nothing : (q : Entry → Bool) (xs : List Entry) → first_place q xs ≡ None → first_of q xs ≡ none
found_nothing q xs e = subst (Finds q xs) e (first_finds q xs)

-- ---- each entry, by its place

pub all_places : (q : Entry → Bool) (xs : List Entry) → ((k : ℕ) → k < length xs → q (at_place k xs) ≡ true)
    → all_of q xs ≡ true
all_places q [] h = refl
all_places q (x ∷ xs) h =
    both (q x) (all_of q xs) (h 0 (suc-le-suc zero-le)) (all_places q xs (λ k l. h (suc k) (suc-le-suc l)))

pub at_each_place : (q : Entry → Bool) (xs : List Entry) → all_of q xs ≡ true → (k : ℕ) → k < length xs
    → q (at_place k xs) ≡ true
at_each_place q [] e k h = absurd (not-suc-le-zero h)
at_each_place q (x ∷ xs) e zero h = and_left (q x) (all_of q xs) e
at_each_place q (x ∷ xs) e (suc k) h = at_each_place q xs (and_right (q x) (all_of q xs) e) k (le_of_suc-le-suc h)

-- ---- where a search by place ends

module _ (q : Entry → Bool) (xs : List Entry) where
  none_before : (i : ℕ) → i ≤ length xs → ((k : ℕ) → k < i → q (at_place k xs) ≡ false)
      → first_place q xs ≡ first_place_from q i (drop i xs)
  none_before zero h n = refl
  none_before (suc i) h n =
      none_before i (omega arith) (λ k l. n k (omega arith)) ∙ first_miss q xs i h (n i (omega arith))
      ∙ ap (λ (k : ℕ). first_place_from q k (drop k xs)) (add-one i)

  pub first_place_is : (p : Place) → p.0 < length xs → q (at_place p.0 xs) ≡ true
      → ((k : ℕ) → k < p.0 → q (at_place k xs) ≡ false) → first_place q xs ≡ Some p
  first_place_is p h t n = none_before p.0 (omega arith) n ∙ first_hit q xs p.0 h t

  pub first_place_none : ((k : ℕ) → k < length xs → q (at_place k xs) ≡ false) → first_place q xs ≡ None
  first_place_none n = none_before (length xs) (omega arith) n ∙ first_end q xs (length xs) (omega arith)

-- the event at a place is below 512
pub event_small : (F p : ℕ) (m : List ℕ) → EventsFit F m → p < entry_count m → event_of (at_place p (entries_of F m)) < 512
event_small F p m f h =
    ltb-true _ 512
    (at_each_place (λ x. ltb (event_of x) 512) (entries_of F m) f.below p (omega (arith, entries_are_count F m)))
