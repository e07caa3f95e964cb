-- What the functions on the bytes of the memory block ask of a caller: that what they read or write lies within the
-- block.
use Rattle.std.specs.Prelude.{◌≡◌, true, List, ℕ, ◌+◌, ◌≤◌, ◌<◌, length, ltb}
use Rattle.history.specs.Words.{all_of}
use Rattle.manual.specs.Configuration.{most_events, most_places, most_payload}
use Rattle.manual.specs.Memory.{event_of, entry_width, entry_count, bytes_in_use, entries_of}

-- the entries lie within the block, and are no more and no longer than any configuration allows
pub record EntriesFit (F : ℕ) (m : List ℕ) : Type 0 where
  pub payload_most : F ≤ most_payload
  pub count_most : entry_count m ≤ most_places
  pub within : bytes_in_use F (entry_count m) ≤ length m

-- an entry stands at place p
pub record PlaceFits (F : ℕ) (m : List ℕ) (p : ℕ) : Type 0 where
  pub entries : EntriesFit F m
  pub below : p < entry_count m

-- an entry of event e may be written at place p: there is room for it, and the event number has two bytes
pub record RoomAt (F : ℕ) (m : List ℕ) (p e : ℕ) : Type 0 where
  pub payload_most : F ≤ most_payload
  pub event_most : e < 65536
  pub place_most : p ≤ most_places
  pub within : bytes_in_use F p + entry_width F ≤ length m

-- the entries lie within the block, and their event numbers are those of events
pub record EventsFit (F : ℕ) (m : List ℕ) : Type 0 where
  pub entries : EntriesFit F m
  pub below : all_of (λ x. ltb (event_of x) most_events) (entries_of F m) ≡ true
