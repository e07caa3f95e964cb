-- What a store asks of a caller, and what it leaves. Assumes nothing.
use Rattle.std.specs.Prelude.{◌≡◌, Bool, not, List, ℕ, ◌*◌, ◌<◌, length, get_or}
use Rattle.history.specs.StatusByte.{status_of, test_failed}
use Rattle.manual.specs.declared.StoreAnswer.{StoreAnswer}
use Rattle.manual.specs.Configuration.{Configuration, events, places, frame_bytes, entry_frames}
use Rattle.manual.specs.State.{record_width}
use Rattle.manual.specs.Memory.{Entry, memory_of, Kept, admitted, store}
use Rattle.memory.specs.InOrder.{InOrder}

-- a caller's memory is in order, and the event and the frame are ones of the configuration
pub record MayStore (cfg : Configuration) (m : List ℕ) (e : ℕ) (frame : List ℕ) : Type 0 where
  pub event_inside : e < events cfg
  pub frame_fits : length frame ≡ frame_bytes cfg
  pub in_order : InOrder (events cfg) (places cfg) (entry_frames cfg) m

-- whether an event has bit 0 clear, by the records
abbrev pub quiet_in : List ℕ → ℕ → Bool
quiet_in records e = not (status_of (get_or records (record_width * e) 0) test_failed)

-- the memory block to the last byte, and what was done
pub record Left : Type 0 where
  pub block : List ℕ
  pub did : StoreAnswer

abbrev pub left_with : List ℕ → StoreAnswer → Left
left_with m did = record { block = m; did = did }

module _ (M F : ℕ) (priority : ℕ → ℕ) (quiet : ℕ → Bool) (e : ℕ) (frame : List ℕ) where
  -- what these entries and this rule leave
  abbrev pub left_by : Kept → Left
  left_by k = left_with (memory_of M F k.entries) k.did

  -- what rules 2 to 4 leave, and what all four leave
  unfoldable pub admits : List Entry → Left
  admits xs = left_by (admitted M priority quiet e frame xs)

  unfoldable pub stores : List Entry → Left
  stores xs = left_by (store M priority quiet e frame xs)
