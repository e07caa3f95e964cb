-- Laws of specs/Image.antt, of an entry's one frame that becomes both: the state that an image of edition 1 makes is
-- well formed.
use mathlib.Core.Path.{◌≡◌, refl, ap, ◌∙◌}
use mathlib.Core.Bool.{Bool, true, not, ◌&&◌, ◌||◌}
use mathlib.Core.List.{List, [], ◌∷◌, map}
use Prim.Native.Nat.{ℕ, ◌*◌}
use native.Mathlib.Omega.{arith}
use lib.ListN.{length, length-append}
use Rattle.history.specs.Words.{any_of}
use Rattle.manual.specs.Words.{All}
use Rattle.manual.specs.Configuration.{Configuration, events, places, frame_bytes}
use Rattle.manual.specs.State.{State}
use Rattle.manual.specs.Memory.{Entry, event_of, first_frame, latest_frame, payload_of, is_of, no_twice}
use Rattle.manual.specs.WellFormed.{entries_with, entries, well_formed_with}
use Rattle.manual.specs.Image.{StillWith, Still, with_both, widened}
use Rattle.manual.proofs.FirstAndLatest.{first_of_new, latest_of_new}
use Rattle.manual.proofs.MemoryLaws.{EntryGood, Good}
use Rattle.manual.proofs.MemoryStaysGood.{has_failed_bit, entries_are, made_good}
use Rattle.manual.proofs.WellFormedLaws.{StateTellsWith, state_tells}
use Rattle.manual.proofs.SoundStates.{entries_good, sound_formed}

-- ---- the entries

-- "its one frame becoming both"
module _ (F : ℕ) (x : Entry) (framed : length x.payload ≡ F) where
  pub first_is_the_one : first_frame F (with_both x).payload ≡ x.payload
  first_is_the_one = first_of_new F x.payload framed

  pub latest_is_the_one : latest_frame F (with_both x).payload ≡ x.payload
  latest_is_the_one = latest_of_new F x.payload framed

pub both_length : (xs : List Entry) → length (map with_both xs) ≡ length xs
both_length [] = refl
both_length (x ∷ xs) = omega (arith, both_length xs)

both_of : (e : ℕ) (xs : List Entry) → any_of (is_of e) (map with_both xs) ≡ any_of (is_of e) xs
both_of e [] = refl
both_of e (x ∷ xs) = ap (λ (b : Bool). is_of e x || b) (both_of e xs)

both_once : (xs : List Entry) → no_twice (map with_both xs) ≡ no_twice xs
unfolding no_twice
both_once [] = refl
both_once (x ∷ xs) = λ i. not (both_of (event_of x) xs i) && both_once xs i

module _ (n M F : ℕ) (B : ℕ → Bool) where
  both_good : (x : Entry) → EntryGood n F B x → EntryGood n (2 * F) B (with_both x)
  unfolding payload_of
  both_good x g =
      record {
        below = g.below;
        occurred = g.occurred;
        framed = omega (arith, length-append x.payload x.payload, g.framed);
        failed = g.failed;
      }

  all_both_good : (xs : List Entry) → All (EntryGood n F B) xs → All (EntryGood n (2 * F) B) (map with_both xs)
  all_both_good [] a = tt
  all_both_good (x ∷ xs) a = (both_good x a.0, all_both_good xs a.1)

  good_both : (xs : List Entry) → Good n M F B xs → Good n M (2 * F) B (map with_both xs)
  good_both xs g =
      record {
        few = omega (arith, both_length xs, g.few);
        each = all_both_good xs g.each;
        once = both_once xs ∙ g.once;
      }

-- ---- the state

module _ (cfg : Configuration) where
  -- its entries are those of the image, each with its one frame as both
  pub widened_entries : (s : State) → well_formed_with cfg (frame_bytes cfg) s ≡ true
      → entries cfg (widened cfg s) ≡ map with_both (entries_with cfg (frame_bytes cfg) s)
  unfolding widened
  widened_entries s w =
      entries_are cfg s (map with_both (entries_with cfg (frame_bytes cfg) s))
      (good_both (events cfg) (places cfg) (frame_bytes cfg) (has_failed_bit cfg s) (entries_with cfg (frame_bytes cfg) s)
      (entries_good cfg (frame_bytes cfg) s w))

  pub widened_still : (s : State) → StillWith cfg (frame_bytes cfg) s → Still cfg (widened cfg s)
  unfolding widened
  widened_still s still = record {
    formed =
        sound_formed cfg (widened cfg s) (record {
          memory =
              made_good cfg s (map with_both (entries_with cfg (frame_bytes cfg) s))
              (record { records = t.lengths.records; debounce = t.lengths.debounce })
              (good_both (events cfg) (places cfg) (frame_bytes cfg) (has_failed_bit cfg s)
              (entries_with cfg (frame_bytes cfg) s) (entries_good cfg (frame_bytes cfg) s still.formed));
          events_good = λ e h. record { kept = t.records e h; number = t.numbers e h };
        });
    four = still.four;
    stopped = still.stopped;
  }
    where
      t : StateTellsWith cfg (frame_bytes cfg) s
      t = state_tells cfg s still.formed
