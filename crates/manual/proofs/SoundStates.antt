-- A well-formed state in the form in which the steps of a call keep it, there and back.
use mathlib.Core.Path.{◌≡◌, sym, ap, subst, ◌∙◌}
use mathlib.Core.Bool.{true}
use mathlib.Core.List.{List}
use Prim.Native.Nat.{ℕ, ◌-◌, ◌*◌, ◌≤◌, ◌<◌}
use native.Mathlib.Omega.{arith}
use lib.Dec.{eqb}
use lib.ListN.{drop, replicate, length, length-drop}
use borrow.Author.Tests.{leb-true, le-leb, ltb-true, lt-ltb}
use Rattle.history.specs.Words.{all_of}
use Rattle.history.proofs.WordsLaws.{part, parts}
use Rattle.manual.specs.declared.Board.{Board}
use Rattle.manual.specs.Words.{All}
use Rattle.manual.specs.Configuration.{Configuration, events, places, entry_frames}
use Rattle.manual.specs.State.{State, opened}
use Rattle.manual.specs.Memory.{Entry, event_of, entry_width, entry_count, bytes_in_use, entries_of}
use Rattle.manual.specs.WellFormed.{record_ok, d_ok, entry_ok, entries_with, entries, well_formed_with, well_formed}
use Rattle.manual.proofs.WordsLaws.{all_both, all_of_test, test_of_all, zeros_pass}
use Rattle.manual.proofs.MemoryLaws.{Framed, EntryGood, Good, frames, entries_length, entries_framed}
use Rattle.manual.proofs.MemoryLaws.{memory_count, memory_length_lem, memory_tail, block_is}
use Rattle.manual.proofs.OneEventLaws.{View, view}
use Rattle.manual.proofs.MemoryStaysGood.{has_failed_bit, MemoryGood}
use Rattle.manual.proofs.WellFormedLaws.{StateTellsWith, StateTells, state_tells, state_told, used_fits}
use Rattle.manual.proofs.WellFormedLaws.{zeros_behind}

module _ (cfg : Configuration) where
  -- event e's record and D are as "well formed" asks, on this board
  pub record EventGood (b : Board) (e : ℕ) (v : View) : Type 0 where
    pub kept : record_ok cfg e (opened v.stored) ≡ true
    pub number : d_ok cfg b e v.number ≡ true

  -- a well-formed state in the form in which steps keep it
  pub record Sound (s : State) : Type 0 where
    pub memory : MemoryGood cfg s
    pub events_good : (e : ℕ) → e < events cfg → EventGood s.board e (view s e)

  -- ---- there and back

  entry_good : (W : ℕ) (s : State) (x : Entry) → entry_ok cfg s x ≡ true → Framed W x
      → EntryGood (events cfg) W (has_failed_bit cfg s) x
  entry_good W s x o f =
      record {
        below = ltb-true _ _ (part _ o 0);
        occurred = leb-true _ _ (part _ o 1);
        framed = f;
        failed = part _ o 2;
      }

  entry_told : (s : State) (x : Entry) → EntryGood (events cfg) (entry_frames cfg) (has_failed_bit cfg s) x
      → entry_ok cfg s x ≡ true
  entry_told s x g =
      parts _ (lt-ltb (event_of x) (events cfg) g.below, (le-leb 1 x.count g.occurred, (g.failed, tt)))

  -- the entries of a well-formed state with payloads of W bytes are in order
  pub entries_good : (W : ℕ) (s : State) → well_formed_with cfg W s ≡ true
      → Good (events cfg) (places cfg) W (has_failed_bit cfg s) (entries_with cfg W s)
  unfolding entries_of
  entries_good W s w = record {
    few =
        subst (λ (j : ℕ). j ≤ places cfg) (sym (entries_length W (entry_count s.memory) (drop 1 s.memory)))
        t.few;
    each =
        all_both (λ x. entry_ok cfg s x ≡ true) (Framed W) (EntryGood (events cfg) W (has_failed_bit cfg s))
        (entry_good W s)
        (entries_with cfg W s) (all_of_test (entry_ok cfg s) (entries_with cfg W s) t.each)
        (entries_framed W (entry_count s.memory) (drop 1 s.memory)
        (let l = length-drop 1 s.memory in let f = used_fits cfg s t in omega arith));
    once = t.once;
  }
    where
      t : StateTellsWith cfg W s
      t = state_tells cfg s w

  pub sound : (s : State) → well_formed cfg s ≡ true → Sound s
  sound s w = record {
    memory = record {
      sized = record { records = t.lengths.records; debounce = t.lengths.debounce };
      block = block_is (places cfg) (entry_frames cfg) s.memory (used_fits cfg s t) (zeros_behind cfg s t);
      good = entries_good (entry_frames cfg) s w;
    };
    events_good = λ e h. record { kept = t.records e h; number = t.numbers e h };
  }
    where
      t : StateTells cfg s
      t = state_tells cfg s w

  pub sound_formed : (s : State) → Sound s → well_formed cfg s ≡ true
  sound_formed s o =
      state_told cfg s (record {
        lengths =
            record {
              records = m.sized.records;
              debounce = m.sized.debounce;
              memory = ap length m.block ∙ memory_length_lem (places cfg) (entry_frames cfg) xs framed m.good.few;
            };
        records = λ e h. (o.events_good e h).kept;
        numbers = λ e h. (o.events_good e h).number;
        few = subst (λ (j : ℕ). j ≤ places cfg) (sym count) m.good.few;
        each =
            test_of_all (EntryGood (events cfg) (entry_frames cfg) (has_failed_bit cfg s)) (entry_ok cfg s) (entry_told s)
            xs m.good.each;
        once = m.good.once;
        tail =
            subst (λ (l : List ℕ). all_of (λ b. eqb b 0) l ≡ true) (sym zeros)
            (zeros_pass (entry_width (entry_frames cfg) * (places cfg - length xs)));
      })
    where
      m : MemoryGood cfg s
      m = o.memory

      xs : List Entry
      xs = entries cfg s

      framed : All (Framed (entry_frames cfg)) xs
      framed = frames (events cfg) (entry_frames cfg) (has_failed_bit cfg s) xs m.good.each

      count : entry_count s.memory ≡ length xs
      count = ap entry_count m.block ∙ memory_count (places cfg) (entry_frames cfg) xs framed

      zeros : drop (bytes_in_use (entry_frames cfg) (entry_count s.memory)) s.memory
          ≡ replicate (entry_width (entry_frames cfg) * (places cfg - length xs)) 0
      zeros =
          ap (λ (j : ℕ). drop (bytes_in_use (entry_frames cfg) j) s.memory) count
          ∙ ap (drop (bytes_in_use (entry_frames cfg) (length xs))) m.block
          ∙ memory_tail (places cfg) (entry_frames cfg) xs framed
