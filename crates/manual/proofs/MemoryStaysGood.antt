-- What each step of a call keeps of the memory block: it is the block of its entries, and these are in order.
use mathlib.Core.Path.{◌≡◌, refl, sym, ap, subst, ◌∙◌}
use mathlib.Core.Logic.{◌≢◌}
use mathlib.Core.Bool.{Bool, true, false}
use mathlib.Core.List.{List}
use Prim.Native.Nat.{ℕ, ◌<◌}
use lib.Dec.{eqb}
use lib.ListN.{length}
use lib.IntN.{ℤ, pos}
use borrow.Author.Tests.{eqb-true, eqb-false}
use Rattle.history.specs.StatusByte.{test_failed_since_last_clear, EventRecord, Limits, ages_at_stop}
use Rattle.history.specs.History.{Token, stop, clear, step}
use Rattle.manual.specs.Configuration.{Configuration, events, places, frame_bytes}
use Rattle.manual.specs.Configuration.{entry_frames, priority_of, limits_of}
use Rattle.manual.specs.State.{State, opened, record_of, with_d}
use Rattle.manual.specs.Memory.{Entry, memory_of, without, store}
use Rattle.manual.specs.WellFormed.{entries}
use Rattle.manual.specs.OneEvent.{happens, with_entries, entry_leaves, is_quiet, keeps, memory_told, stops, clears}
use Rattle.manual.proofs.WordsLaws.{by}
use Rattle.manual.proofs.StateLaws.{opened_stored}
use Rattle.manual.proofs.MemoryLaws.{Good, frames, memory_entries, good_bits, good_without, fills, good_store}
use Rattle.manual.proofs.OneEventLaws.{View, Sized, acts_happens, acts_d}

module _ (cfg : Configuration) where
  -- bit 5 of each event
  abbrev pub has_failed_bit : State → ℕ → Bool
  has_failed_bit s e = (record_of s e).status test_failed_since_last_clear

  abbrev InOrder : State → List Entry → Type 0
  InOrder s xs = Good (events cfg) (places cfg) (entry_frames cfg) (has_failed_bit s) xs

  pub record MemoryGood (s : State) : Type 0 where
    pub sized : Sized cfg s
    pub block : s.memory ≡ memory_of (places cfg) (entry_frames cfg) (entries cfg s)
    pub good : InOrder s (entries cfg s)

  -- a block made of entries in order
  pub entries_are : (s : State) (xs : List Entry) → InOrder s xs → entries cfg (with_entries cfg xs s) ≡ xs
  entries_are s xs g =
      memory_entries (places cfg) (entry_frames cfg) xs
      (frames (events cfg) (entry_frames cfg) (has_failed_bit s) xs g.each)

  pub made_good : (s : State) (xs : List Entry) → Sized cfg s → InOrder s xs → MemoryGood (with_entries cfg xs s)
  made_good s xs z g = record {
    sized = record { records = z.records; debounce = z.debounce };
    block = ap (memory_of (places cfg) (entry_frames cfg)) (sym (entries_are s xs g));
    good = subst (InOrder s) (sym (entries_are s xs g)) g;
  }

  -- ---- bit 5 after something happened to event k

  pub bit_own : (t : Token) (k : ℕ) (s : State) → Sized cfg s → k < events cfg
      → has_failed_bit (happens cfg t k s) k ≡ (step (limits_of cfg k) t (record_of s k)).status test_failed_since_last_clear
  bit_own t k s z h =
      ap (λ (v : View). (opened v.stored).status test_failed_since_last_clear) ((acts_happens cfg t).own k s z h)
      ∙ ap (λ (r : EventRecord). r.status test_failed_since_last_clear)
      (opened_stored (step (limits_of cfg k) t (record_of s k)))

  bit_other : (t : Token) (k e : ℕ) (s : State) → e ≢ k → has_failed_bit (happens cfg t k s) e ≡ has_failed_bit s e
  bit_other t k e s d =
      ap (λ (v : View). (opened v.stored).status test_failed_since_last_clear) ((acts_happens cfg t).other k e s d)

  -- what happens to an event leaves bit 5 set, but for a clear
  abbrev pub Keeps5 : Token → Type 0
  Keeps5 t =
      (n : Limits) (r : EventRecord) → r.status test_failed_since_last_clear ≡ true
      → (step n t r).status test_failed_since_last_clear ≡ true

  pub good_happens : (t : Token) → Keeps5 t → (k : ℕ) (s : State) → k < events cfg → MemoryGood s
      → MemoryGood (happens cfg t k s)
  unfolding happens
  good_happens t keep k s h m = record {
    sized = (acts_happens cfg t).sized k s m.sized;
    block = m.block;
    good =
        good_bits (events cfg) (places cfg) (entry_frames cfg) (has_failed_bit s) (has_failed_bit (happens cfg t k s))
        (entries cfg s) (λ e p q. still e q (eqb e k) refl) m.good;
  }
    where
      still : (e : ℕ) → has_failed_bit s e ≡ true → (b : Bool) → eqb e k ≡ b → has_failed_bit (happens cfg t k s) e ≡ true
      still e q true w =
          subst (λ (j : ℕ). has_failed_bit s j ≡ true → has_failed_bit (happens cfg t k s) j ≡ true) (sym (eqb-true e k w))
          (λ u. bit_own t k s m.sized h ∙ keep (limits_of cfg k) (record_of s k) u) q
      still e q false w = bit_other t k e s (eqb-false e k w) ∙ q

  pub good_d : (k : ℕ) (d : ℤ) (s : State) → MemoryGood s → MemoryGood (with_d k d s)
  good_d k d s m = record { sized = (acts_d cfg d).sized k s m.sized; block = m.block; good = m.good }

  -- ---- its entry leaves

  -- the bit of its event is asked no more, whatever has become of it
  good_leaves : (B : ℕ → Bool) (k : ℕ) (s : State) → Sized cfg s
      → Good (events cfg) (places cfg) (entry_frames cfg) B (entries cfg s)
      → ((e : ℕ) → e < events cfg → e ≢ k → B e ≡ true → has_failed_bit s e ≡ true) → MemoryGood (entry_leaves cfg k s)
  unfolding entry_leaves
  good_leaves B k s z g f =
      made_good s (without k (entries cfg s)) z
      (good_without (events cfg) (places cfg) (entry_frames cfg) B (has_failed_bit s) k (entries cfg s) f g)

  pub good_clears : (k : ℕ) (s : State) → k < events cfg → MemoryGood s → MemoryGood (clears cfg k s)
  unfolding clears happens
  good_clears k s h m =
      good_d k (pos 0) _
      (good_leaves (has_failed_bit s) k (happens cfg clear k s) ((acts_happens cfg clear).sized k s m.sized) m.good
      (λ e p d q. bit_other clear k e s d ∙ q))

  pub good_stops : (k : ℕ) (s : State) → k < events cfg → MemoryGood s → MemoryGood (stops cfg k s)
  unfolding stops
  good_stops k s h m =
      good_d k (pos 0) _
      (by (ages_at_stop (limits_of cfg k) (record_of s k)) MemoryGood
      (λ q. good_leaves _ k (happens cfg stop k s) stopped.sized stopped.good (λ e p d q. q)) (λ q. stopped))
    where
      stopped : MemoryGood (happens cfg stop k s)
      stopped = good_happens stop (λ n r e. e) k s h m

  -- ---- a verdict

  pub good_told : (frame : List ℕ) (k : ℕ) (s : State) → length frame ≡ frame_bytes cfg → k < events cfg
      → has_failed_bit s k ≡ true → MemoryGood s → MemoryGood (memory_told cfg frame k s)
  unfolding memory_told keeps
  good_told frame k s f h five m =
      let made =
      made_good s (store (places cfg) (priority_of cfg) (is_quiet cfg s) k frame (entries cfg s)).entries m.sized
      (good_store (events cfg) (places cfg) (entry_frames cfg) (has_failed_bit s) (priority_of cfg) (is_quiet cfg s) k frame
      h five (fills cfg frame f) (entries cfg s) m.good) in
      record {
        sized = record { records = made.sized.records; debounce = made.sized.debounce };
        block = made.block;
        good = made.good;
      }
