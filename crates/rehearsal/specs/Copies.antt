-- What a copy of a block must be. Assumes nothing.
use Rattle.std.specs.Prelude.{◌≡◌, ◌*◌, ◌≤◌, length}
use Rattle.manual.specs.Configuration.{most_events}
use Rattle.manual.specs.State.{State, record_width}
use Rattle.manual.specs.Memory.{most_memory}

-- the blocks of a copy are as long as those of the state
pub record AsLong (s copy : State) : Type 0 where
  pub records : length s.records ≡ length copy.records
  pub debounce : length s.debounce ≡ length copy.debounce
  pub memory : length s.memory ≡ length copy.memory

-- the copies of the blocks have room: a well-formed state has no more records, debounce numbers and bytes of memory
pub record FitCopies (s : State) : Type 0 where
  pub records : length s.records ≤ record_width * most_events
  pub debounce : length s.debounce ≤ most_events
  pub memory : length s.memory ≤ most_memory
