-- What is done to the bytes of a memory block in order is what the rules do to its entries: an entry leaves and the gap
-- is closed, an entry is put at the end.
use mathlib.Core.Path.{◌≡◌, refl, sym, ap, subst, ◌∙◌}
use mathlib.Core.List.{List, [], ◌∷◌, ◌++◌, append_assoc, append-nil}
use mathlib.Core.Bool.{Bool, not}
use Prim.Native.Nat.{ℕ, suc, ◌+◌, ◌-◌, ◌*◌, ◌≤◌, ◌<◌}
use native.Mathlib.Nat.{mul-suc, mul-zero, mul_comm, mul-add, add_comm}
use native.Mathlib.Numerals.{one-add}
use native.Mathlib.Omega.{arith}
use lib.Dec.{ltb}
use lib.ListN.{length, take, drop, set, replicate, length-append, length-replicate}
use lib.ListN.{length-drop, replicate-append-replicate}
use lib.Seq.{sets, take_at, drop_at, split_at, length-take-le}
use borrow.Author.Tests.{eqb-true}
use Rattle.history.specs.Words.{all_of}
use Rattle.manual.specs.declared.Place.{Place}
use Rattle.manual.specs.Memory.{Entry, event_of, entry_of, entry_width, entry_bytes, entry_count, bytes_in_use}
use Rattle.manual.specs.Memory.{entries_of, entries_bytes, memory_of, is_of, without, no_twice}
use Rattle.manual.specs.Words.{All}
use Rattle.manual.proofs.WordsLaws.{all_append, all_front, first_none, those_all, those_le}
use Rattle.manual.proofs.MemoryLaws.{Framed, bytes_length, entries_framed, memory_count, memory_entries, memory_length_lem}
use Rattle.manual.proofs.MemoryLaws.{memory_tail, without_is}
use Rattle.writing.proofs.PartlyWritten.{sets_after_one, sets_middle}
use Rattle.memory.specs.Block.{closed, gap_closed, entered, removed, added, replaced}
use Rattle.std.specs.Prelude.{Some, None}
use Rattle.memory.specs.Places.{blank, at_place, first_place, place_of}
use Rattle.memory.specs.Fits.{EntriesFit, PlaceFits, RoomAt}
use Rattle.memory.specs.InOrder.{InOrder}
use Rattle.memory.proofs.BlockLaws.{closed_length}
use Rattle.memory.proofs.PlacesLaws.{next_start, starts_rise, entry_within, entries_are_count}
use Rattle.memory.proofs.PlacesLaws.{found, found_nothing}

-- ---- lists of bytes

-- w bytes taken out of the middle
middle_closed : (a x b : List ℕ) (w : ℕ) → length x ≡ w
    → closed (length a) w (a ++ (x ++ b)) ≡ a ++ (b ++ replicate w 0)
unfolding closed
middle_closed a x b w h =
    let n : length (a ++ x) ≡ length a + w = length-append a x ∙ ap (λ (k : ℕ). length a + k) h in
    let d : drop (length a + w) (a ++ (x ++ b)) ≡ b =
    ap (drop (length a + w)) (sym (append_assoc a x b)) ∙ drop_at (a ++ x) b _ n in
    λ i. take_at a (x ++ b) _ refl i ++ (d i ++ replicate w 0)

-- the first byte stands in front of what is done to the rest
closed_cons : (x at w : ℕ) (m : List ℕ) → closed (1 + at) w (x ∷ m) ≡ x ∷ closed at w m
unfolding closed
closed_cons x at w m =
    let f : 1 + at + w ≡ suc (at + w) = omega arith in
    λ i. take (one-add at i) (x ∷ m) ++ (drop (f i) (x ∷ m) ++ replicate w 0)

gap_cons : (F p x : ℕ) (m : List ℕ) → gap_closed F p (x ∷ m) ≡ x ∷ closed (entry_width F * p) (entry_width F) m
unfolding gap_closed
gap_cons F p x m = closed_cons x (entry_width F * p) (entry_width F) m

-- ---- the bytes of entries

bytes_append : (xs ys : List Entry) → entries_bytes (xs ++ ys) ≡ entries_bytes xs ++ entries_bytes ys
unfolding entries_bytes
bytes_append [] ys = refl
bytes_append (x ∷ xs) ys =
    ap (λ (l : List ℕ). entry_bytes x ++ l) (bytes_append xs ys)
    ∙ sym (append_assoc (entry_bytes x) (entries_bytes xs) (entries_bytes ys))

all_back : (P : Entry → Type 0) (xs ys : List Entry) → All P (xs ++ ys) → All P ys
all_back P [] ys a = a
all_back P (x ∷ xs) ys a = all_back P xs ys a.1

module _ (M F : ℕ) where
  abbrev w : ℕ
  w = entry_width F

  entry_length : (x : Entry) → Framed F x → length (entry_bytes x) ≡ w
  entry_length x f = omega arith

  -- the entry x leaves, between older and newer ones
  removed_is : (older : List Entry) (x : Entry) (newer : List Entry) → All (Framed F) (older ++ x ∷ newer)
      → length (older ++ x ∷ newer) ≤ M
      → removed F (length older) (memory_of M F (older ++ x ∷ newer)) ≡ memory_of M F (older ++ newer)
  unfolding memory_of entries_bytes
  removed_is older x newer a r =
      let n : length (older ++ x ∷ newer) ≡ length older + suc (length newer) = length-append older (x ∷ newer) in
      let n₁ : length (older ++ newer) ≡ length older + length newer = length-append older newer in
      let z = w * (M - length (older ++ x ∷ newer)) in
      let f : entries_bytes (older ++ x ∷ newer) ++ replicate z 0
      ≡ entries_bytes older ++ (entry_bytes x ++ (entries_bytes newer ++ replicate z 0)) =
      ap (λ (l : List ℕ). l ++ replicate z 0) (bytes_append older (x ∷ newer))
      ∙ append_assoc (entries_bytes older) (entry_bytes x ++ entries_bytes newer) _
      ∙ ap (λ (l : List ℕ). entries_bytes older ++ l) (append_assoc (entry_bytes x) (entries_bytes newer) _) in
      let q : M - length (older ++ newer) ≡ suc (M - length (older ++ x ∷ newer)) = omega arith in
      let y : z + w ≡ w * (M - length (older ++ newer)) = sym (ap (λ (j : ℕ). w * j) q ∙ mul-suc w _) in
      let c : length (older ++ x ∷ newer) - 1 ≡ length (older ++ newer) = omega arith in
      ap (λ (l : List ℕ). set l 0 (length (older ++ x ∷ newer) - 1))
      (gap_cons F (length older) (length (older ++ x ∷ newer)) (entries_bytes (older ++ x ∷ newer) ++ replicate z 0))
      ∙ (λ i. c i ∷ closed (sym (bytes_length F older (all_front (Framed F) older (x ∷ newer) a)) i) w (f i))
      ∙ ap (λ (l : List ℕ). length (older ++ newer) ∷ l)
      (middle_closed (entries_bytes older) (entry_bytes x) (entries_bytes newer ++ replicate z 0) w
      (entry_length x (all_back (Framed F) older (x ∷ newer) a).0)
      ∙ ap (λ (l : List ℕ). entries_bytes older ++ l)
      (append_assoc (entries_bytes newer) _ _
      ∙ ap (λ (l : List ℕ). entries_bytes newer ++ l)
      (replicate-append-replicate z w 0 ∙ ap (λ (j : ℕ). replicate j 0) y))
      ∙ sym (append_assoc (entries_bytes older) (entries_bytes newer) _)
      ∙ ap (λ (l : List ℕ). l ++ replicate (w * (M - length (older ++ newer))) 0) (sym (bytes_append older newer)))

  -- an entry is put at the end
  added_is : (e c : ℕ) (frame : List ℕ) (xs : List Entry) → All (Framed F) xs → length frame ≡ F → length xs < M
      → added F e c frame (memory_of M F xs) ≡ memory_of M F (xs ++ (entry_of e c frame ∷ []))
  unfolding entered memory_of entries_bytes
  added_is e c frame xs a k r =
      let x = entry_of e c frame in
      let n : length (entry_bytes x) ≡ w = omega arith in
      let s : length xs + 1 ≡ length (xs ++ (x ∷ [])) = sym (length-append xs (x ∷ [])) in
      let z = w * (M - length (xs ++ (x ∷ []))) in
      let q : M - length xs ≡ suc (M - length (xs ++ (x ∷ []))) = omega arith in
      let y : w * (M - length xs) ≡ w + z = ap (λ (j : ℕ). w * j) q ∙ mul-suc w _ ∙ add_comm _ w in
      let f : replicate {A =
      ℕ} (w * (M - length xs)) 0 ≡ replicate w 0 ++ replicate z 0 = ap (λ (j : ℕ). replicate j
      0) y ∙ sym (replicate-append-replicate w z 0) in
      sets_after_one (length xs + 1) (w * length xs) (entry_bytes x)
      (entries_bytes xs ++ replicate (w * (M - length xs)) 0)
      ∙ (λ i. s i ∷ sets (entries_bytes xs ++ f i) (sym (bytes_length F xs a) i) (entry_bytes x))
      ∙ ap (λ (l : List ℕ). length (xs ++ (x ∷ [])) ∷ l)
      (sets_middle (entries_bytes xs) (entry_bytes x) (replicate w 0) (replicate z 0)
      (length-replicate {A = ℕ} w 0 ∙ sym n)
      ∙ sym (append_assoc (entries_bytes xs) (entry_bytes x) _)
      ∙ ap (λ (l : List ℕ). l ++ replicate z 0)
      (sym (bytes_append xs (x ∷ []) ∙ ap (λ (l : List ℕ). entries_bytes xs ++ l) (append-nil (entry_bytes x)))))

-- ---- the same in one step

replaced_is : (F p e c : ℕ) (payload m : List ℕ) → 0 < entry_count m
    → replaced F p e c payload m ≡ added F e c payload (removed F p m)
replaced_is F p e c payload [] h = absurd (omega arith)
replaced_is F p e c payload (n ∷ m) h =
    let rest = closed (entry_width F * p) (entry_width F) m in
    let k : n - 1 + 1 ≡ n = omega arith in
    ap (entered F (n - 1) e c payload) (gap_cons F p n m)
    ∙ ap (λ (j : ℕ). entered F (n - 1) e c payload (j ∷ rest)) (sym k)
    ∙ ap (λ (l : List ℕ). entered F (entry_count l) e c payload (set l 0 (entry_count l + 1)))
    (sym (ap (λ (l : List ℕ). set l 0 (n - 1)) (gap_cons F p n m)))

-- and there is room for an entry at each place in use
gap_length : (F p : ℕ) (m : List ℕ) → PlaceFits F m p → length (gap_closed F p m) ≡ length m
unfolding gap_closed
gap_length F p m f = closed_length (bytes_in_use F p) (entry_width F) m (entry_within F p m f)

pub room_in_use : (F p e q : ℕ) (m : List ℕ) → PlaceFits F m p → e < 65536 → q < entry_count m
    → RoomAt F (gap_closed F p m) q e
room_in_use F p e q m f h l = record {
  payload_most = f.entries.payload_most;
  event_most = h;
  place_most = omega (arith, f.entries.count_most);
  within = omega (arith, gap_length F p m f, entry_within F q m (record { entries = f.entries; below = l }));
}

-- ---- a memory block in order

module _ (n M F : ℕ) (m : List ℕ) (o : InOrder n M F m) where
  abbrev xs : List Entry
  xs = entries_of F m

  entries_within : bytes_in_use F (entry_count m) ≤ length m
  entries_within = omega (arith, starts_rise F (entry_count m) M o.few, mul_comm M (entry_width F), o.sized)

  pub entries_fit : EntriesFit F m
  entries_fit =
      record {
        payload_most = o.payload_most;
        count_most = omega (arith, o.few, o.places_most);
        within = entries_within;
      }

  pub room_at_end : (e : ℕ) → e < 65536 → entry_count m < M → RoomAt F m (entry_count m) e
  room_at_end e h k = record {
    payload_most = o.payload_most;
    event_most = h;
    place_most = omega (arith, o.places_most);
    within =
        omega (
          arith,
          next_start F (entry_count m),
          starts_rise F (suc (entry_count m)) M k,
          mul_comm M (entry_width F),
          o.sized,
        );
  }

  pub framed : All (Framed F) xs
  unfolding entries_of
  framed = entries_framed F (entry_count m) (drop 1 m) (omega (arith, length-drop 1 m, entries_within))

  few_entries : length xs ≤ M
  few_entries = omega (arith, entries_are_count F m, o.few)

  pub added_at : (e c : ℕ) (frame : List ℕ) → length frame ≡ F → entry_count m < M
      → added F e c frame m ≡ memory_of M F (xs ++ (entry_of e c frame ∷ []))
  added_at e c frame k h =
      ap (added F e c frame) o.block ∙ added_is M F e c frame xs framed k (omega (arith, entries_are_count F m))

  module _ (p : ℕ) (h : p < entry_count m) where
    in_entries : p < length xs
    in_entries = omega (arith, entries_are_count F m)

    there : xs ≡ take p xs ++ at_place p xs ∷ drop (suc p) xs
    there = split_at xs p blank in_entries

    leaves : without (event_of (at_place p xs)) xs ≡ take p xs ++ drop (suc p) xs
    leaves = without_is xs (take p xs) (at_place p xs) (drop (suc p) xs) there o.once

    all_framed : All (Framed F) (take p xs ++ at_place p xs ∷ drop (suc p) xs)
    all_framed = subst (All (Framed F)) there framed

    pub place_framed : Framed F (at_place p xs)
    place_framed = (all_back (Framed F) (take p xs) (at_place p xs ∷ drop (suc p) xs) all_framed).0

    few_left : length (take p xs ++ drop (suc p) xs) < M
    few_left =
        let a = length-append (take p xs) (drop (suc p) xs) in
        let b = ap length there ∙ length-append (take p xs) (at_place p xs ∷ drop (suc p) xs) in
        omega (arith, few_entries)

    removed_as : removed F p m ≡ memory_of M F (take p xs ++ drop (suc p) xs)
    removed_as =
        (λ i. removed F (sym (length-take-le p xs (omega (arith, in_entries))) i)
        ((o.block ∙ ap (memory_of M F) there) i))
        ∙ removed_is M F (take p xs) (at_place p xs) (drop (suc p) xs) all_framed
        (subst (λ (l : List Entry). length l ≤ M) there few_entries)

    -- the entry at place p leaves
    pub removed_at : removed F p m ≡ memory_of M F (without (event_of (at_place p xs)) xs)
    removed_at = removed_as ∙ ap (memory_of M F) (sym leaves)

    left_framed : All (Framed F) (take p xs ++ drop (suc p) xs)
    left_framed =
        all_append (Framed F) (take p xs) (drop (suc p) xs)
        (all_front (Framed F) (take p xs) (at_place p xs ∷ drop (suc p) xs) all_framed)
        (all_back (Framed F) (take p xs) (at_place p xs ∷ drop (suc p) xs) all_framed).1

    -- and an entry of event e is put at the end
    pub replaced_at : (e c : ℕ) (frame : List ℕ) → length frame ≡ F
        → replaced F p e c frame m ≡ memory_of M F (without (event_of (at_place p xs)) xs ++ (entry_of e c frame ∷ []))
    replaced_at e c frame k =
        replaced_is F p e c frame m (omega arith)
        ∙ ap (added F e c frame) removed_as
        ∙ added_is M F e c frame (take p xs ++ drop (suc p) xs) left_framed k few_left
        ∙ ap (λ (l : List Entry). memory_of M F (l ++ (entry_of e c frame ∷ []))) (sym leaves)

  -- ---- event e's entry leaves

  pub place_fits : (q : Entry → Bool) (p : Place) → first_place q xs ≡ Some p → PlaceFits F m p.0
  place_fits q p h =
      record { entries = entries_fit; below = omega (arith, (found q xs p h).inside, entries_are_count F m) }

  pub forgotten_at : (e : ℕ) (p : Place) → place_of e xs ≡ Some p → removed F p.0 m ≡ memory_of M F (without e xs)
  forgotten_at e p h =
      removed_at p.0 (place_fits (is_of e) p h).below
      ∙ ap (λ (k : ℕ). memory_of M F (without k xs)) (eqb-true _ _ (found (is_of e) xs p h).passes)

  pub forgotten_nothing : (e : ℕ) → place_of e xs ≡ None → m ≡ memory_of M F (without e xs)
  unfolding without
  forgotten_nothing e h =
      o.block ∙ ap (memory_of M F) (sym (those_all (is_of e) xs (first_none (is_of e) xs (found_nothing (is_of e) xs h))))

-- ---- the bytes in use are a block of their own, of as many places as there are entries, and behind them all is 0

abbrev pub front : ℕ → List ℕ → List ℕ
front F m = take (bytes_in_use F (entry_count m)) m

module _ (n M F : ℕ) (m : List ℕ) (o : InOrder n M F m) where
  abbrev entries : List Entry
  entries = entries_of F m

  abbrev number : ℕ
  number = entry_count m

  are_framed : All (Framed F) entries
  are_framed = framed n M F m o

  front_is : front F m ≡ memory_of number F entries
  unfolding memory_of
  front_is =
      let count : length entries ≡ number = entries_are_count F m in
      let none : number - length entries ≡ 0 = omega arith in
      let z : entry_width F * (number - length entries) ≡ 0 =
      ap (λ (k : ℕ). entry_width F * k) none ∙ mul-zero (entry_width F) in
      ap (take (bytes_in_use F number)) o.block
      ∙ ap (λ (k : ℕ). take k (memory_of M F entries)) (one-add (entry_width F * number))
      ∙ ap (λ (l : List ℕ). length entries ∷ l)
      (take_at (entries_bytes entries) _ (entry_width F * number)
      (bytes_length F entries are_framed ∙ ap (λ (k : ℕ). entry_width F * k) count)
      ∙ sym (append-nil (entries_bytes entries))
      ∙ ap (λ (k : ℕ). entries_bytes entries ++ replicate k 0) (sym z))

  pub front_entries : entries_of F (front F m) ≡ entries
  front_entries = ap (entries_of F) front_is ∙ memory_entries number F entries are_framed

  pub front_in_order : InOrder n number F (front F m)
  front_in_order =
      let count : length entries ≡ number = entries_are_count F m in
      let fewer : length entries ≤ number = omega arith in
      record {
        events_most = o.events_most;
        places_most = let f = o.few in let p = o.places_most in omega arith;
        payload_most = o.payload_most;
        sized = ap length front_is ∙ memory_length_lem number F entries are_framed fewer;
        few = omega (arith, ap entry_count front_is ∙ memory_count number F entries are_framed);
        block = front_is ∙ ap (memory_of number F) (sym front_entries);
        below = ap (all_of (λ x. ltb (event_of x) n)) front_entries ∙ o.below;
        once = ap no_twice front_entries ∙ o.once;
      }

  -- a block of the entries in the front, and what lies behind it
  with_rest : (ys : List Entry) → length ys ≤ number
      → memory_of number F ys ++ drop (bytes_in_use F number) m ≡ memory_of M F ys
  unfolding memory_of
  with_rest ys h =
      let f = o.few in
      let y : entry_width F * (number - length ys) + entry_width F * (M - number) ≡ entry_width F * (M - length ys) =
      sym (mul-add (entry_width F) (number - length ys) (M - number)) ∙ ap (λ (k : ℕ). entry_width F * k) (omega arith) in
      ap (λ (l : List ℕ). length ys ∷ l)
      (append_assoc (entries_bytes ys) _ _
      ∙ ap (λ (l : List ℕ). entries_bytes ys ++ l)
      (ap (λ (l : List ℕ). replicate (entry_width F * (number - length ys)) 0 ++ l) rest
      ∙ replicate-append-replicate (entry_width F * (number - length ys)) (entry_width F * (M - number)) 0
      ∙ ap (λ (k : ℕ). replicate k 0) y))
    where
      rest : drop (bytes_in_use F number) m ≡ replicate (entry_width F * (M - number)) 0
      rest =
          let count : length entries ≡ number = entries_are_count F m in
          (λ i. drop (bytes_in_use F (sym count i)) (o.block i))
          ∙ memory_tail M F entries are_framed
          ∙ ap (λ (k : ℕ). replicate (entry_width F * (M - k)) 0) count

  -- event e's entry leaves the front
  pub forgotten_in_front : (e : ℕ) (p : Place) → place_of e entries ≡ Some p
      → removed F p.0 (front F m) ++ drop (bytes_in_use F number) m ≡ memory_of M F (without e entries)
  unfolding without
  forgotten_in_front e p h =
      ap (λ (l : List ℕ). l ++ drop (bytes_in_use F number) m)
      (forgotten_at n number F (front F m) front_in_order e p (ap (place_of e) front_entries ∙ h)
      ∙ ap (λ (l : List Entry). memory_of number F (without e l)) front_entries)
      ∙ with_rest (without e entries) fewer
    where
      fewer : length (without e entries) ≤ number
      fewer = omega (arith, those_le (λ x. not (is_of e x)) entries, entries_are_count F m)
