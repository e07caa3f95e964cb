-- The memory block of a well-formed state, as a store and a removal ask for it: the block of its entries, and these in
-- order.
use Rattle.std.specs.Prelude.{◌≡◌, true, List, ℕ, ◌≤◌, length, ltb}
use Rattle.history.specs.Words.{all_of}
use Rattle.manual.specs.Configuration.{most_events, most_places, most_payload}
use Rattle.manual.specs.Memory.{event_of, memory_length, entry_count, entries_of, memory_of, no_twice}

-- n events, M places, payloads of F bytes
pub record InOrder (n M F : ℕ) (m : List ℕ) : Type 0 where
  pub events_most : n ≤ most_events
  pub places_most : M ≤ most_places
  pub payload_most : F ≤ most_payload
  pub sized : length m ≡ memory_length M F
  pub few : entry_count m ≤ M
  pub block : m ≡ memory_of M F (entries_of F m)
  pub below : all_of (λ x. ltb (event_of x) n) (entries_of F m) ≡ true
  pub once : no_twice (entries_of F m) ≡ true
