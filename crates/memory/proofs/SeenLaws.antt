-- "no two equal", by marks: which events have been seen among the entries from a place on.
use mathlib.Core.Path.{◌≡◌, refl, sym, ap, ◌∙◌}
use mathlib.Core.Bool.{Bool, true, false, not, ◌&&◌}
use mathlib.Core.List.{List, [], ◌∷◌}
use Prim.Native.Nat.{ℕ, ◌+◌, ◌-◌, ◌≤◌, ◌<◌}
use native.Mathlib.Omega.{arith}
use lib.Dec.{eqb, ltb}
use lib.ListN.{length, get_or, set, drop, replicate, length-replicate, get_or-replicate, length-set, drop_of_length-le}
use lib.Seq.{get_or-set_same, get_or-set_other}
use borrow.Author.Tests.{eq-eqb, eqb-true, eqb-false, ltb-true, lt-ltb}
use Rattle.history.specs.Words.{any_of, all_of}
use Rattle.history.proofs.WordsLaws.{and_left, and_right, both, part}
use Rattle.manual.specs.Configuration.{most_events}
use Rattle.manual.specs.Memory.{Entry, event_of, is_of, no_twice}
use Rattle.memory.specs.Places.{at_place}
use Rattle.memory.specs.Judgement.{sound_entry}
use Rattle.memory.proofs.PlacesLaws.{next_entry}

-- an event is marked exactly where one of the entries is of it
pub record Marks (seen : List Bool) (xs : List Entry) : Type 0 where
  pub room : length seen ≡ most_events
  pub marked : (e : ℕ) → e < most_events → get_or seen e false ≡ any_of (is_of e) xs

marks_none : Marks (replicate most_events false) []
marks_none = record {
  room = length-replicate most_events false;
  marked = λ e h. get_or-replicate most_events e false false h;
}

marks_more : (seen : List Bool) (x : Entry) (xs : List Entry) → event_of x < most_events → Marks seen xs
    → Marks (set seen (event_of x) true) (x ∷ xs)
marks_more seen x xs h m = record {
  room = length-set seen (event_of x) true ∙ m.room;
  marked = λ e l. go e l (eqb (event_of x) e) refl;
}
  where
    go : (e : ℕ) → e < most_events → (b : Bool) → eqb (event_of x) e ≡ b
        → get_or (set seen (event_of x) true) e false ≡ any_of (is_of e) (x ∷ xs)
    go e l true t =
        rw (← eqb-true (event_of x) e t)
        (get_or-set_same seen (event_of x) true false (omega (arith, m.room))
        ∙ sym (rw (eq-eqb (event_of x) (event_of x) refl) refl))
    go e l false t =
        get_or-set_other seen (event_of x) e true false (λ q. eqb-false (event_of x) e t (sym q))
        ∙ m.marked e l
        ∙ sym (rw t refl)

-- past the last entry no two are equal and nothing is marked
module _ (xs : List Entry) (i : ℕ) (h : length xs ≤ i) where
  pub none_twice_past : no_twice (drop i xs) ≡ true
  unfolding no_twice
  none_twice_past = ap no_twice (drop_of_length-le xs {i = i} h)

  pub marks_past : Marks (replicate most_events false) (drop i xs)
  marks_past = rw (drop_of_length-le xs {i = i} h) marks_none

-- a turn: the entry before place i
module _ (xs : List Entry) (i : ℕ) (p : 0 < i) (h : i ≤ length xs) where
  before_is : drop (i - 1) xs ≡ at_place (i - 1) xs ∷ drop i xs
  before_is =
      let k : i - 1 + 1 ≡ i = omega arith in
      next_entry xs (i - 1) (omega arith) ∙ ap (λ (j : ℕ). at_place (i - 1) xs ∷ drop j xs) k

  module _ (seen : List Bool) (e : ℕ) (is : e ≡ event_of (at_place (i - 1) xs)) (l : e < most_events)
      (m : Marks seen (drop i xs)) where
    pub turn_once : no_twice (drop i xs) && not (get_or seen e false) ≡ no_twice (drop (i - 1) xs)
    unfolding no_twice
    turn_once =
        rw (before_is, m.marked e l, is)
        (swap (no_twice (drop i xs)) (any_of (is_of (event_of (at_place (i - 1) xs))) (drop i xs)))
      where
        swap : (b a : Bool) → b && not a ≡ not a && b
        swap true true = refl
        swap true false = refl
        swap false true = refl
        swap false false = refl

    pub turn_marks : Marks (set seen e true) (drop (i - 1) xs)
    turn_marks = rw (before_is, is) (marks_more seen (at_place (i - 1) xs) (drop i xs) (rw is at l) m)

-- entries that are sound have events that can be marked
pub events_small : (n : ℕ) (records : List ℕ) (xs : List Entry) → n ≤ most_events
    → all_of (sound_entry n records) xs ≡ true → all_of (λ x. ltb (event_of x) most_events) xs ≡ true
events_small n records [] h t = refl
events_small n records (x ∷ xs) h t =
    let sound = and_left (sound_entry n records x) (all_of (sound_entry n records) xs) t in
    let l : event_of x < n = ltb-true (event_of x) n (part _ sound 0) in
    let small : event_of x < most_events = omega arith in
    both (ltb (event_of x) most_events) (all_of (λ y. ltb (event_of y) most_events) xs) (lt-ltb (event_of x) most_events small)
    (events_small n records xs h (and_right (sound_entry n records x) (all_of (sound_entry n records) xs) t))
