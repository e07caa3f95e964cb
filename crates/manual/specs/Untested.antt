-- Document 02, W10, "A page of untested signals": the table of counts, the paint of an event, the list of the grey
-- events, and the calls that read them. Assumes nothing.
use Rattle.std.specs.Prelude.{Bool, true, not, ◌&&◌, ◌||◌, cond, List, [], ◌∷◌, ◌++◌, map, ℕ, ◌+◌, ◌*◌, eqb, ltb, length, drop, replicate}
use Rattle.history.specs.StatusByte.{Bit, test_failed, test_failed_this_operation_cycle, pending_dtc, confirmed_dtc}
use Rattle.history.specs.StatusByte.{test_not_completed_since_last_clear, test_failed_since_last_clear}
use Rattle.history.specs.StatusByte.{test_not_completed_this_operation_cycle, warning_indicator_requested}
use Rattle.manual.specs.declared.Verdict.TheVariants.{None}
use Rattle.manual.specs.declared.Paint.{Paint}
use Rattle.manual.specs.declared.Paint.TheVariants.{Grey, Red, Live}
use Rattle.manual.specs.Words.{count_below, those}
use Rattle.manual.specs.Configuration.{Configuration, events}
use Rattle.manual.specs.State.{State, record_of}
use Rattle.manual.specs.Answers.{Beside, with_room, Outcome, Rule, ◌if◌, judged, done}
use Rattle.manual.specs.Calls.{begins, no_such_event, cycle_runs, of_cycle}
use Rattle.manual.specs.Replies.{rising}

-- "each of the eight bits", bit 0 first
abbrev pub eight_bits : List Bit
eight_bits =
    test_failed ∷ test_failed_this_operation_cycle ∷ pending_dtc ∷ confirmed_dtc ∷ test_not_completed_since_last_clear
    ∷ test_failed_since_last_clear ∷ test_not_completed_this_operation_cycle ∷ warning_indicator_requested ∷ []

abbrev pub bit_number : Bit → ℕ
bit_number test_failed = 0
bit_number test_failed_this_operation_cycle = 1
bit_number pending_dtc = 2
bit_number confirmed_dtc = 3
bit_number test_not_completed_since_last_clear = 4
bit_number test_failed_since_last_clear = 5
bit_number test_not_completed_this_operation_cycle = 6
bit_number warning_indicator_requested = 7

-- where the count of a cycle and a bit stands in the table
abbrev pub place_in : ℕ → Bit → ℕ
place_in c b = 8 * c + bit_number b

module _ (cfg : Configuration) (s : State) where
  -- ---- the table

  -- an event "of that cycle with the bit set"
  abbrev pub counts : ℕ → Bit → ℕ → Bool
  counts c b e = of_cycle cfg c e && (record_of s e).status b

  -- "Count, for each of the four cycles and each of the eight bits, the events of that cycle with the bit set"
  unfoldable pub count_of : ℕ → Bit → ℕ
  count_of c b = count_below (events cfg) (counts c b)

  abbrev pub row : ℕ → List ℕ
  row c = map (count_of c) eight_bits

  -- "as a four by eight table of counts": cycle by cycle
  unfoldable pub table : List ℕ
  table = row 0 ++ (row 1 ++ (row 2 ++ row 3))

  -- ---- the paint

  -- "grey if bit 6 is set or its cycle is stopped"
  unfoldable pub is_grey : ℕ → Bool
  is_grey e = (record_of s e).status test_not_completed_this_operation_cycle || not (cycle_runs cfg s.board e)

  -- "grey if …, else red if bit 0 is set, else live"
  unfoldable pub paint_of : ℕ → Paint
  paint_of e = cond (is_grey e) Grey (cond ((record_of s e).status test_failed) Red Live)

  -- ---- the list

  -- "List the grey events in rising order, complete"
  unfoldable pub grey_events : List ℕ
  grey_events = those is_grey (rising (events cfg))

module _ (cfg : Configuration) where
  -- ---- read table: 2, 3

  unfoldable pub read_table_rules : State → List Rule
  read_table_rules s = begins cfg s true []

  unfoldable pub read_table : Beside → State → Outcome
  read_table b s = judged (read_table_rules s) b s (done b s)

  -- ---- read paint: 2, 3, "4 for an unknown event"

  unfoldable pub read_paint_rules : ℕ → State → List Rule
  read_paint_rules e s = begins cfg s true ((4 if no_such_event cfg e) ∷ [])

  unfoldable pub read_paint : ℕ → Beside → State → Outcome
  read_paint e b s = judged (read_paint_rules e s) b s (done b s)

  -- ---- list grey: 2, 3, "with 7 when it is too short"

  unfoldable pub list_grey_rules : Beside → State → List Rule
  list_grey_rules b s = begins cfg s true ((7 if ltb (length b.room) (length (grey_events cfg s))) ∷ [])

  -- "into a lent slice of 16-bit numbers": the numbers past the list stay; the answer is how many
  abbrev pub listed : List ℕ → Beside → State → Outcome
  listed numbers b s = record {
    answer = 0;
    verdict = None;
    value = length numbers;
    part = [];
    beside = with_room (numbers ++ drop (length numbers) b.room) b;
    state = s;
  }

  unfoldable pub list_grey : Beside → State → Outcome
  list_grey b s = judged (list_grey_rules b s) b s (listed (grey_events cfg s) b s)

-- the outcome, and the table
pub record TableRead : Type 0 where
  pub outcome : Outcome
  pub counts : List ℕ

-- "any status, count or length it answers is 0": so are all counts beside a refusal
abbrev pub no_counts : List ℕ
no_counts = replicate 32 0

abbrev pub tabled : Outcome → List ℕ → TableRead
tabled o counts = record { outcome = o; counts = cond (eqb o.answer 0) counts no_counts }

unfoldable pub table_read : Configuration → Beside → State → TableRead
table_read cfg b s = tabled (read_table cfg b s) (table cfg s)

-- the outcome, and the paint
pub record PaintRead : Type 0 where
  pub outcome : Outcome
  pub paint : Paint

-- "a refusal (4 for an unknown event) paints grey"
abbrev pub painted : Outcome → Paint → PaintRead
painted o paint = record { outcome = o; paint = cond (eqb o.answer 0) paint Grey }

unfoldable pub paint_read : Configuration → ℕ → Beside → State → PaintRead
paint_read cfg e b s = painted (read_paint cfg e b s) (paint_of cfg s e)
