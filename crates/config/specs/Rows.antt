-- What reading and judging the rows of a configuration needs beside the manual's definitions. Assumes nothing.
use Rattle.std.specs.Prelude.{Bool, true, ◌&&◌, cond, List, [], ◌∷◌, ℕ, zero, suc, ◌+◌, ◌*◌, ◌≤◌, ◌<◌, ℤ, pos, negsuc, length, take, drop}
use Rattle.history.specs.StatusByte as status
use Rattle.manual.specs.Words.{between, eq_z}
use Rattle.manual.specs.Configuration.{Configuration, in_front, most_events, row_width, column, row_ok, rises}
use Rattle.config.specs.declared.Column.{Column}
use Rattle.config.specs.declared.Column.TheVariants.{TroubleCode, Priority, Cycle, Kind, P, Q, Up, Down, Jumps, Confirm, Heal, Age, Indicator, Needed}
use Rattle.config.specs.declared.Limits.{Limits}

-- the numbers of a row, "1 | trouble code" to W5's "14th"
abbrev pub number_of : Column → ℕ
number_of TroubleCode = 1
number_of Priority = 2
number_of Cycle = 3
number_of Kind = 4
number_of P = 5
number_of Q = 6
number_of Up = 7
number_of Down = 8
number_of Jumps = 9
number_of Confirm = 10
number_of Heal = 11
number_of Age = 12
number_of Indicator = 13
number_of Needed = 14

-- "the length is exactly 3 + 13n", with W5 3 + 14n: the rows of n events lie within the configuration, so does the row
-- of each event
pub record RowsWithin (cfg : Configuration) (n : ℕ) : Type 0 where
  pub most : n ≤ most_events
  pub within : in_front + row_width * n ≤ length cfg

pub record RowWithin (cfg : Configuration) (e : ℕ) : Type 0 where
  pub event_inside : e < most_events
  pub within : in_front + row_width * e + row_width ≤ length cfg

-- an event's row with the three numbers before it: read as a configuration, it is the row of event 0
abbrev pub part_of : Configuration → ℕ → Configuration
part_of cfg e = take (in_front + row_width) (drop (row_width * e) cfg)

-- the numbers 5 to 9 of a row, as the table allows them for a kind
abbrev pub of_kind : ℤ → Configuration → ℕ → List Bool
of_kind kind cfg e =
    cond (eq_z kind (pos 0)) (eq_z (column 5 cfg e) (pos 0)) (between (negsuc 29999) (negsuc 0) (column 5 cfg e))
    ∷ cond (eq_z kind (pos 0)) (eq_z (column 6 cfg e) (pos 0)) (between (pos 1) (pos 30000) (column 6 cfg e))
    ∷ cond (eq_z kind (pos 1)) (between (pos 1) (pos 30000) (column 7 cfg e)) (eq_z (column 7 cfg e) (pos 0))
    ∷ cond (eq_z kind (pos 1)) (between (pos 1) (pos 30000) (column 8 cfg e)) (eq_z (column 8 cfg e) (pos 0))
    ∷ cond (eq_z kind (pos 1)) (between (pos 0) (pos 3) (column 9 cfg e)) (eq_z (column 9 cfg e) (pos 0))
    ∷ []

-- "strictly rising from event to event", said of the later of two neighbours
abbrev pub rises_here : Configuration → ℕ → Bool
rises_here cfg zero = true
rises_here cfg (suc e) = rises cfg e

-- an event's row is as the table allows, after the row before and alone
abbrev pub row_fits : Configuration → ℕ → Bool
row_fits cfg e = rises_here cfg e && row_ok cfg e

-- the limits that the struct's fields are
abbrev pub limits_is : Limits → status.Limits
limits_is l = record { C = l.confirm; H = l.heal; A = l.age; indicator = l.indicator }
