-- What the judgement of one part of a state asks of a caller: an accepted configuration, and a part that fits it.
-- Assumes nothing.
use Rattle.std.specs.Prelude.{◌≡◌, true, List, ℕ, ◌*◌, ◌<◌, ℤ, length}
use Rattle.manual.specs.Configuration.{Configuration, events, config_ok}
use Rattle.manual.specs.State.{record_width}

-- an event
pub record EventIn (cfg : Configuration) (e : ℕ) : Type 0 where
  pub accepted : config_ok cfg ≡ true
  pub below : e < events cfg

-- "Records: 4n lent bytes"
pub record RecordsFor (cfg : Configuration) (records : List ℕ) : Type 0 where
  pub accepted : config_ok cfg ≡ true
  pub as_long : length records ≡ record_width * events cfg

-- "Debounce numbers: n lent signed 32-bit numbers"
pub record NumbersFor (cfg : Configuration) (debounce : List ℤ) : Type 0 where
  pub accepted : config_ok cfg ≡ true
  pub as_long : length debounce ≡ events cfg
