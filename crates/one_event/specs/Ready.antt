-- What a step on one event may count on, and what an accepted report leaves. Assumes nothing.
use Rattle.std.specs.Prelude.{◌≡◌, true, List, [], ℕ, ◌*◌, ◌<◌, length}
use Rattle.manual.specs.declared.Verdict.{Verdict}
use Rattle.manual.specs.Configuration.{Configuration, events, places, entry_frames, config_ok}
use Rattle.manual.specs.State.{State, record_width, opened, stored_at, D}
use Rattle.manual.specs.WellFormed.{record_ok, d_ok}
use Rattle.manual.specs.Answers.{Outcome, alone}
use Rattle.memory.specs.InOrder.{InOrder}

-- an accepted report's verdict, and the state that it leaves, as the manual has them
abbrev pub accepts : Verdict → State → Outcome
accepts verdict s = record { answer = 0; verdict = verdict; value = 0; part = []; beside = alone; state = s }

-- the records have room for event e, and memory is in order
pub record BlocksFit (cfg : Configuration) (s : State) (e : ℕ) : Type 0 where
  pub below : e < events cfg
  pub records_as_long : length s.records ≡ record_width * events cfg
  pub in_order : InOrder (events cfg) (places cfg) (entry_frames cfg) s.memory

-- under an accepted configuration, the event has a record, and it is as "well formed" asks
pub record RecordFits (cfg : Configuration) (records : List ℕ) (e : ℕ) : Type 0 where
  pub configured : config_ok cfg ≡ true
  pub below : e < events cfg
  pub records_as_long : length records ≡ record_width * events cfg
  pub kept : record_ok cfg e (opened (stored_at e records)) ≡ true

-- under an accepted configuration, the debounce numbers have room for it too, and its record is as "well formed" asks
pub record EventFits (cfg : Configuration) (s : State) (e : ℕ) : Type 0 where
  pub configured : config_ok cfg ≡ true
  pub blocks : BlocksFit cfg s e
  pub debounce_as_long : length s.debounce ≡ events cfg
  pub kept : record_ok cfg e (opened (stored_at e s.records)) ≡ true

-- and on the board its D is so too: what a step on event e of a well-formed state may count on
pub record Ready (cfg : Configuration) (s : State) (e : ℕ) : Type 0 where
  pub event : EventFits cfg s e
  pub number : d_ok cfg s.board e (D s e) ≡ true
