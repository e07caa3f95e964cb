-- What the functions of this crate ask and answer, in the words of the manual's specs/Untested.antt. Assumes nothing.
use Rattle.std.specs.Prelude.{◌≡◌, ◌⊎◌, true, false, cond, List, [], ◌∷◌, ℕ, ◌+◌, ◌*◌, ◌≤◌, ◌<◌, length, get_or}
use Rattle.std.specs.Prelude.{Result, Ok, Err}
use Rattle.history.specs.StatusByte.{Bit}
use Rattle.manual.specs.declared.Board.{Board}
use Rattle.manual.specs.declared.Paint.{Paint}
use Rattle.manual.specs.declared.Refusal.{Refusal}
use Rattle.manual.specs.declared.Verdict.TheVariants.{None}
use Rattle.manual.specs.Words.{count_below}
use Rattle.manual.specs.Configuration.{Configuration, events, config_ok}
use Rattle.manual.specs.State.{State, record_width, lent, all_stopped}
use Rattle.manual.specs.Answers.{alone, number_answered, answered, of_paint, paint_answered, leaves}
use Rattle.manual.specs.Replies.{bit_at}
use Rattle.manual.specs.Untested.{place_in, counts, is_grey, grey_events, no_counts, TableRead, PaintRead}
use Rattle.config.specs.Rows.{RowWithin}
use Rattle.judgement.specs.Fits.{RecordsFor}

-- ---- the table

-- each count of the row that begins at `at` can rise by one in 16 bits
pub record RowFits (at : ℕ) (row : List ℕ) : Type 0 where
  pub within : at + 8 ≤ length row
  pub below : (j : ℕ) → j < 8 → get_or row (at + j) 0 < 65535

-- the first k counts of the row have risen by the bits of the byte, bit 0 first, and all other counts are as before
pub record Risen (at byte k : ℕ) (before after : List ℕ) : Type 0 where
  pub counted : (j : ℕ) → j < k → get_or after (at + j) 0 ≡ get_or before (at + j) 0 + bit_at j byte
  pub others : (i : ℕ) → (i < at) ⊎ (at + k ≤ i) → get_or after i 0 ≡ get_or before i 0

-- the table, the paint and the list are read off the records and the board alone
abbrev pub holding : List ℕ → Board → State
holding records board = lent records [] [] board

-- a board that the table is not read off
abbrev pub any_board : Board
any_board = record { running = all_stopped; overflow = false }

module _ (cfg : Configuration) where
  -- the counts of the events below e
  pub record CountsBelow (records : List ℕ) (e : ℕ) (table : List ℕ) : Type 0 where
    pub long : length table ≡ 32
    pub each : (c : ℕ) → c < 4 → (b : Bit)
        → get_or table (place_in c b) 0 ≡ count_below e (counts cfg (holding records any_board) c b)

  -- and e is the next event
  pub record OneMore (records : List ℕ) (e : ℕ) (table : List ℕ) : Type 0 where
    pub config : config_ok cfg ≡ true
    pub event_inside : e < events cfg
    pub so_far : CountsBelow records e table

  -- ---- the list

  -- what is written of an event
  abbrev pub if_grey : State → ℕ → List ℕ
  if_grey s e = cond (is_grey cfg s e) (e ∷ []) []

  -- its row and its record lie within what is lent
  pub record EventWithin (records : List ℕ) (e : ℕ) : Type 0 where
    pub row : RowWithin cfg e
    pub record_within : record_width * e + record_width ≤ length records

  -- there is room for it from `at` on
  pub record MayWrite (s : State) (e at : ℕ) (list : List ℕ) : Type 0 where
    pub judged : RecordsFor cfg s.records
    pub event_inside : e < events cfg
    pub within : at + length (if_grey s e) ≤ length list

  -- there is room for all of them
  pub record MayList (s : State) (list : List ℕ) : Type 0 where
    pub judged : RecordsFor cfg s.records
    pub within : length (grey_events cfg s) ≤ length list

-- ---- what an answer says of a state that is left as found

-- "any status, count or length it answers is 0": so are all counts beside a refusal
abbrev pub counts_answered : Result (List ℕ) Refusal → List ℕ
counts_answered (Ok counts) = counts
counts_answered (Err r) = no_counts

abbrev pub table_told : Result (List ℕ) Refusal → State → TableRead
table_told a s =
    record { outcome = leaves (answered (number_answered a) None 0) [] alone s; counts = counts_answered a }

abbrev pub paint_told : Result Paint Refusal → State → PaintRead
paint_told a s = record { outcome = leaves (of_paint a) [] alone s; paint = paint_answered a }
