-- What the code of debouncing has of an event: the numbers 4 to 9 of its row, by value. Assumes nothing.
use Rattle.std.specs.Prelude.{◌≡◌, [], ◌∷◌, ℕ, ◌≤◌, ℤ, pos, nat_abs}
use Rattle.manual.specs.Configuration.{Configuration, kind_of, low_of, high_of, up_of, down_of, jumps_of}
use Rattle.manual.specs.Debouncing as manual
use Rattle.manual.specs.Debouncing.{reported, ticked}
use Rattle.debounce.specs.declared.Row.{Row}
use Rattle.debounce.specs.declared.Debounced.{Debounced}

-- these are the numbers 4 to 9 of event e's row
pub record RowOf (cfg : Configuration) (e : ℕ) (row : Row) : Type 0 where
  pub kind_is : row.kind ≡ kind_of cfg e
  pub low_is : row.low ≡ low_of cfg e
  pub high_is : row.high ≡ high_of cfg e
  pub up_is : row.up ≡ up_of cfg e
  pub down_is : row.down ≡ down_of cfg e
  pub jumps_is : row.jumps ≡ jumps_of cfg e

-- the row alone: a configuration whose one event, number 0, has it. What the manual says of this event it says of every
-- event that has the row (proofs/RowsLaws.antt), so no rule is written a second time for rows.
unfoldable pub alone : Row → Configuration
alone row =
    pos 1 ∷ pos 1 ∷ pos 0
    ∷ pos 1 ∷ pos 1 ∷ pos 0
    ∷ pos row.kind ∷ row.low ∷ row.high ∷ row.up ∷ row.down ∷ pos row.jumps
    ∷ pos 1 ∷ pos 1 ∷ pos 1 ∷ pos 0
    ∷ []

-- the new D and the verdict that the code answers, as the manual has them
abbrev pub answered : Debounced → manual.Debounced
answered r = record { number = r.number; verdict = r.verdict }

-- what a report and what a tick do to an event with this row
abbrev pub reported_by : Row → ℕ → ℤ → manual.Debounced
reported_by row code d = reported (alone row) 0 code d

abbrev pub ticked_by : Row → ℕ → ℤ → manual.Debounced
ticked_by row ms d = ticked (alone row) 0 ms d

-- ---- small numbers, of which no sum overflows

-- no number of the row is farther from 0 than the table allows
pub record SmallRow (row : Row) : Type 0 where
  pub low : nat_abs row.low ≤ 30000
  pub high : nat_abs row.high ≤ 30000
  pub up : nat_abs row.up ≤ 30000
  pub down : nat_abs row.down ≤ 30000

-- and D is no farther than P−1 and Q+1 can be
pub record SmallReport (row : Row) (d : ℤ) : Type 0 where
  pub of_row : SmallRow row
  pub of_d : nat_abs d ≤ 30001

-- and the tick is no longer than a tick may be
pub record SmallTick (row : Row) (ms : ℕ) (d : ℤ) : Type 0 where
  pub of_row : SmallRow row
  pub of_d : nat_abs d ≤ 30001
  pub of_ms : ms ≤ 60000
