-- The judgement of memory in "A state is well formed when …", on the lent bytes alone. Assumes nothing.
use Rattle.std.specs.Prelude.{Bool, List, [], ◌∷◌, ℕ, ◌*◌, ◌≤◌, eqb, leb, ltb, length, get_or, drop}
use Rattle.history.specs.Words.{holds, all_of}
use Rattle.history.specs.StatusByte.{status_of, test_failed_since_last_clear}
use Rattle.manual.specs.Configuration.{most_events, most_places, most_payload}
use Rattle.manual.specs.State.{record_width}
use Rattle.manual.specs.Memory.{Entry, event_of, memory_length, entry_count, bytes_in_use, entries_of, no_twice}

-- n events, M places, payloads of F bytes, as an accepted configuration has them
pub record Small (n M F : ℕ) : Type 0 where
  pub events_most : n ≤ most_events
  pub places_most : M ≤ most_places
  pub payload_most : F ≤ most_payload

-- whether an event has bit 5 set, by the records
abbrev pub failed_in : List ℕ → ℕ → Bool
failed_in records e = status_of (get_or records (record_width * e) 0) test_failed_since_last_clear

-- "event numbers below n", "occurrence ≥ 1", "each entry's event has bit 5 set"
abbrev pub sound_numbers : ℕ → List ℕ → ℕ → ℕ → Bool
sound_numbers n records event count = holds (ltb event n ∷ leb 1 count ∷ failed_in records event ∷ [])

abbrev pub sound_entry : ℕ → List ℕ → Entry → Bool
sound_entry n records x = sound_numbers n records (event_of x) x.count

-- "the bytes … are 0"
abbrev pub zeros : List ℕ → Bool
zeros l = all_of (λ b. eqb b 0) l

-- the bytes in use, which are the number of entries and the entries: "Memory has at most M entries, event numbers below
-- n and no two equal, occurrence ≥ 1, each entry's event has bit 5 set"
unfoldable pub used_ok : ℕ → ℕ → ℕ → List ℕ → List ℕ → Bool
used_ok n M F records used =
    holds
    (leb (entry_count used) M
    ∷ eqb (length used) (bytes_in_use F (entry_count used))
    ∷ all_of (sound_entry n records) (entries_of F used)
    ∷ no_twice (entries_of F used)
    ∷ [])

-- the whole block, its length too
unfoldable pub block_ok : ℕ → ℕ → ℕ → List ℕ → List ℕ → Bool
block_ok n M F records m =
    holds
    (eqb (length m) (memory_length M F)
    ∷ leb (entry_count m) M
    ∷ all_of (sound_entry n records) (entries_of F m)
    ∷ no_twice (entries_of F m)
    ∷ zeros (drop (bytes_in_use F (entry_count m)) m)
    ∷ [])
