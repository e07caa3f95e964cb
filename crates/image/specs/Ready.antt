-- What reading an entry count asks for, and what the work of save and of restore asks of a judge that passed. Assumes
-- nothing.
use Rattle.std.specs.Prelude.{◌≡◌, true, List, ℕ, ◌*◌, ◌≤◌, ◌<◌, ℤ, length}
use Rattle.manual.specs.Configuration.{Configuration, most_frame, events, places, entry_frames, config_ok}
use Rattle.manual.specs.State.{record_width}
use Rattle.manual.specs.Memory.{memory_length, entry_count, bytes_in_use}
use Rattle.manual.specs.Image.{acceptable}
use Rattle.image.specs.Widened.{made_of}

-- bytes that begin with an entry count of at most M
pub record Counted (cfg : Configuration) (memory : List ℕ) : Type 0 where
  pub accepted : config_ok cfg ≡ true
  pub some : 0 < length memory
  pub few : entry_count memory ≤ places cfg

-- the records and the memory of a well-formed state
pub record Savable (cfg : Configuration) (records memory : List ℕ) : Type 0 where
  pub accepted : config_ok cfg ≡ true
  pub records_as_long : length records ≡ record_width * events cfg
  pub memory_as_long : length memory ≡ memory_length (places cfg) (entry_frames cfg)
  pub few : entry_count memory ≤ places cfg

-- body 2 of an image of edition 1, with frames of F bytes, and a block that holds its entries with both frames
pub record Widenable (F : ℕ) (used memory : List ℕ) : Type 0 where
  pub small : F ≤ most_frame
  pub as_long : length used ≡ bytes_in_use F (entry_count used)
  pub within : bytes_in_use (2 * F) (entry_count used) ≤ length memory

-- body 2 of an image of an edition, and a block that holds what it makes
pub record Fillable (number F : ℕ) (used memory : List ℕ) : Type 0 where
  pub of_edition_1 : number ≡ 1 → Widenable F used memory
  pub within : length (made_of number F used) ≤ length memory

-- blocks that fit the configuration, and an image that is accepted
pub record Restorable (cfg : Configuration) (records : List ℕ) (debounce : List ℤ) (memory image : List ℕ)
    : Type 0 where
  pub accepted : config_ok cfg ≡ true
  pub records_as_long : length records ≡ record_width * events cfg
  pub debounce_as_long : length debounce ≡ events cfg
  pub memory_as_long : length memory ≡ memory_length (places cfg) (entry_frames cfg)
  pub image_accepted : acceptable cfg image ≡ true
