-- The code's record of an event as the manual's four bytes and as history's record. Assumes nothing.
use Rattle.std.specs.Prelude.{◌≡◌, Bool, not, ◌&&◌, ◌||◌, ℕ, ◌<◌, eqb}
use Rattle.history.specs.StatusByte.{pending_dtc, confirmed_dtc, warning_indicator_requested, EventRecord, Limits}
use Rattle.history.specs.StatusByte.{fresh_failure, clean_cycle, ages_at_stop}
use Rattle.history.specs.History.{failed, stop, step}
use Rattle.manual.specs.State.{Stored, opened, stored}
use Rattle.status.specs.declared.Record.{Record}
use Rattle.status.specs.declared.AfterFailed.{AfterFailed}
use Rattle.status.specs.declared.AfterStop.{AfterStop}

-- the four bytes of a record, and what they stand for
abbrev pub stored_is : Record → Stored
stored_is r = record { status = r.status.0; K = r.k; h = r.h; g = r.g }

abbrev pub record_is : Record → EventRecord
record_is r = opened (stored_is r)

-- "C confirm, H heal, A age" and "indicator", as the numbers that a function is given
abbrev pub limits : ℕ → ℕ → ℕ → Bool → Limits
limits confirm heal age indicator = record { C = confirm; H = heal; A = age; indicator = indicator }

-- what a failed result leaves, under limits n
pub record FailedIs (n : Limits) (r : Record) (f : AfterFailed) : Type 0 where
  pub after : stored_is f.«record» ≡ stored (step n failed (record_is r))
  pub fresh : f.fresh_failure ≡ fresh_failure (record_is r)

-- room in their bytes for "h rises by one" and "g rises by one"
pub record RoomToRise (r : Record) : Type 0 where
  pub h_below : r.h < 255
  pub g_below : r.g < 255

-- what a stop leaves, under limits n
pub record StoppedIs (n : Limits) (r : Record) (s : AfterStop) : Type 0 where
  pub after : stored_is s.«record» ≡ stored (step n stop (record_is r))
  pub aged : s.aged ≡ ages_at_stop n (record_is r)

-- a stop finds nothing to do: bit 1 or 6 is set, or bits 2, 3 and 7 are clear and K is 0
abbrev pub rests_at_stop : EventRecord → Bool
rests_at_stop r =
    not (clean_cycle r.status)
    || (not (r.status pending_dtc || r.status confirmed_dtc || r.status warning_indicator_requested) && eqb r.K 0)
