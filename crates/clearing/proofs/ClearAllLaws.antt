-- A clear of all takes every entry out: event by event, in rising number, or all at once, it leaves the same.
use mathlib.Core.Path.{◌≡◌, refl, sym, ap, ◌∙◌}
use mathlib.Core.Logic.{⊎_elim}
use mathlib.Core.Bool.{true, not}
use mathlib.Core.List.{List, [], ◌∷◌}
use Prim.Native.Nat.{ℕ, zero, suc, ◌+◌, ◌-◌, ◌*◌, ◌≤◌, ◌<◌}
use native.Mathlib.Nat.{eq-or-lt_of_le, mul_comm}
use native.Mathlib.Numerals.{add-one}
use native.Mathlib.Omega.{arith}
use lib.IntN.{ℤ}
use lib.ListN.{length, replicate}
use borrow.Author.Tests.{eqb-false, not-true}
use Rattle.manual.specs.declared.Board.{Board}
use Rattle.manual.specs.Words.{All, for_below}
use Rattle.manual.specs.Configuration.{Configuration, events, places, entry_frames}
use Rattle.manual.specs.State.{State, record_width, with_memory, lent}
use Rattle.manual.specs.Memory.{Entry, event_of, entry_width, memory_length, entries_bytes, memory_of}
use Rattle.manual.specs.Memory.{is_of, without}
use Rattle.manual.specs.WellFormed.{entries, well_formed}
use Rattle.manual.specs.OneEvent.{happens, entry_leaves, clears, for_those}
use Rattle.manual.specs.Calls.{overflow_cleared, cleared}
use Rattle.manual.proofs.WordsLaws.{all_map, all_those}
use Rattle.manual.proofs.MemoryLaws.{Framed, memory_entries}
use Rattle.manual.proofs.MemoryStaysGood.{MemoryGood}
use Rattle.manual.proofs.WellFormedLaws.{state_tells}
use Rattle.manual.proofs.SoundStates.{sound}
use Rattle.one_event.specs.Steps.{resetting}
use Rattle.writing.specs.Filled.{filled_from}
use Rattle.writing.proofs.FilledLaws.{filled_whole}

-- ---- the loop over all events

pub no_reset : (cfg : Configuration) (s : State) → s ≡ for_below 0 (resetting cfg) s
unfolding for_below
no_reset cfg s = refl

pub next_reset : (cfg : Configuration) (i : ℕ) (s : State) {t u : State} → t ≡ for_below i (resetting cfg) s
    → u ≡ resetting cfg i t → u ≡ for_below (i + 1) (resetting cfg) s
unfolding for_below
next_reset cfg i s p q = rw add-one (q ∙ ap (resetting cfg i) p)

-- ---- memory empty at once

-- the block of no entries has bytes 0 alone
none_is : (M F : ℕ) → replicate (memory_length M F) 0 ≡ memory_of M F []
unfolding memory_of entries_bytes
none_is M F =
    let whole : memory_length M F ≡ suc (M * entry_width F) = omega arith in
    let none : M - 0 ≡ M = omega arith in
    ap (λ (k : ℕ). replicate k 0) whole
    ∙ ap (λ (k : ℕ). 0 ∷ replicate k 0)
    (mul_comm M (entry_width F) ∙ ap (λ (k : ℕ). entry_width F * k) (sym none))

module _ (cfg : Configuration) (s : State) (formed : well_formed cfg s ≡ true) where
  good : MemoryGood cfg s
  good = (sound cfg s formed).memory

  abbrev made : List Entry → List ℕ
  made xs = memory_of (places cfg) (entry_frames cfg) xs

  -- an entry that the clear of the events below k leaves
  record Later (k : ℕ) (x : Entry) : Type 0 where
    framed : Framed (entry_frames cfg) x
    below : event_of x < events cfg
    from : k ≤ event_of x

  -- t is what that clear leaves of s
  record Below (k : ℕ) (t : State) : Type 0 where
    left : List Entry
    is : t ≡ with_memory (made left) (for_below k (resetting cfg) s)
    each : All (Later k) left

  framed_all : (k : ℕ) (xs : List Entry) → All (Later k) xs → All (Framed (entry_frames cfg)) xs
  framed_all k xs a = all_map (Later k) (Framed (entry_frames cfg)) (λ x l. l.framed) xs a

  one_more : (k : ℕ) (t : State) (xs : List Entry) (u : State) → t ≡ with_memory (made xs) u
      → All (Framed (entry_frames cfg)) xs
      → clears cfg k t ≡ with_memory (made (without k xs)) (resetting cfg k u)
  unfolding clears happens entry_leaves
  one_more k t xs u p a =
      ap (clears cfg k) p
      ∙ ap (λ (l : List Entry). with_memory (made (without k l)) (resetting cfg k u))
      (memory_entries (places cfg) (entry_frames cfg) xs a)

  later_without : (k : ℕ) (xs : List Entry) → All (Later k) xs → All (Later (suc k)) (without k xs)
  unfolding without
  later_without k xs a =
      all_those (Later k) (Later (suc k)) (λ x. not (is_of k x))
      (λ x q l. record {
        framed = l.framed;
        below = l.below;
        from = ⊎_elim (λ e. absurd (eqb-false _ _ (not-true _ q) (sym e))) (λ h. h) (eq-or-lt_of_le l.from);
      })
      xs a

  below : (k : ℕ) → Below k (for_below k (clears cfg) s)
  unfolding for_below
  below zero = record {
    left = entries cfg s;
    is = ap (λ (m : List ℕ). with_memory m s) good.block;
    each =
        all_map _ (Later 0) (λ x g. record { framed = g.framed; below = g.below; from = omega arith }) (entries cfg s)
        good.good.each;
  }
  below (suc k) = let b = below k in record {
    left = without k b.left;
    is = one_more k _ b.left _ b.is (framed_all k b.left b.each);
    each = later_without k b.left b.each;
  }

  none_left : (xs : List Entry) → All (Later (events cfg)) xs → xs ≡ []
  none_left [] a = refl
  none_left (x ∷ xs) a = let z : ⊥ = omega (arith, a.0.below, a.0.from) in absurd z

  emptied : {m : List ℕ} → m ≡ filled_from 0 0 s.memory → m ≡ made []
  emptied p =
      p ∙ filled_whole 0 s.memory ∙ ap (λ (k : ℕ). replicate k 0) (state_tells cfg s formed).lengths.memory
      ∙ none_is (places cfg) (entry_frames cfg)

  pub blocks_fit : (length s.records ≡ record_width * events cfg) × (length s.debounce ≡ events cfg)
  blocks_fit = (good.sized.records, good.sized.debounce)

  -- there is a byte for the number of entries
  pub counted : 1 ≤ length s.memory
  counted = omega (arith, (state_tells cfg s formed).lengths.memory)

  pub all_cleared : {r : List ℕ} {d : List ℤ} {m : List ℕ} {t : State} → m ≡ filled_from 0 0 s.memory
      →
      ((m : List ℕ) (b : Board)
      → lent r d m b ≡ for_below (events cfg) (resetting cfg) (lent s.records s.debounce m b))
      → t ≡ overflow_cleared cfg 0xFFFFFF (lent r d m s.board) → t ≡ cleared cfg 0xFFFFFF s
  unfolding cleared for_those
  all_cleared {r} {d} {m} e q o =
      let b = below (events cfg) in
      let as-below =
      b.is ∙ ap (λ (xs : List Entry). with_memory (made xs) (for_below (events cfg) (resetting cfg) s))
      (none_left b.left b.each) in
      let at_once : lent r d m s.board ≡ for_below (events cfg) (clears cfg) s =
      (λ i. lent r d (emptied e i) s.board) ∙ ap (with_memory (made [])) (q s.memory s.board) ∙ sym as-below in
      o ∙ ap (overflow_cleared cfg 0xFFFFFF) at_once
