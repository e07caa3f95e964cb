-- The calls for a caller in C: what crosses as plain numbers and bytes. Each call's outcome is the manual's. Assumes
-- nothing.
use Rattle.std.specs.Prelude.{Bool, not, cond, List, [], ◌∷◌, ℕ, eqb, ℤ, get_or}
use Rattle.manual.specs.declared.Board.{Board}
use Rattle.manual.specs.declared.Paint.{Paint}
use Rattle.manual.specs.declared.Paint.TheVariants.{Grey, Red, Live}
use Rattle.manual.specs.declared.Which.{Which}
use Rattle.manual.specs.declared.Which.TheVariants.{First, Latest}
use Rattle.manual.specs.declared.Verdict.{Verdict}
use Rattle.manual.specs.declared.Verdict.TheVariants.{None, Passed, Failed}
use Rattle.manual.specs.State.{runs}
use Rattle.manual.specs.Answers.{Beside, lent_room, alone, Outcome}
use Rattle.manual.specs.Counter.{CounterRead}
use Rattle.manual.specs.Missing.{MissingRead}
use Rattle.manual.specs.Untested.{TableRead, PaintRead}
use Rattle.queries.specs.Reading.{FrameRead}
use Rattle.grelpicado.specs.declared.PanelBoard.{PanelBoard}
use Rattle.grelpicado.specs.declared.PanelAnswer.{PanelAnswer}
use Rattle.grelpicado.specs.declared.PanelReport.{PanelReport}
use Rattle.grelpicado.specs.declared.PanelStatus.{PanelStatus}
use Rattle.grelpicado.specs.declared.PanelCounter.{PanelCounter}
use Rattle.grelpicado.specs.declared.PanelMissing.{PanelMissing}
use Rattle.grelpicado.specs.declared.PanelTable.{PanelTable}
use Rattle.grelpicado.specs.declared.PanelPaint.{PanelPaint}
use Rattle.grelpicado.specs.declared.PanelFrame.{PanelFrame}
use Rattle.grelpicado.specs.declared.PanelLength.{PanelLength}
use Rattle.grelpicado.specs.declared.PanelRequest.{PanelRequest}

-- ---- the board in bytes

-- a flag that is given: 0 no, anything else yes
abbrev pub yes : ℕ → Bool
yes byte = not (eqb byte 0)

-- a flag that is handed back: 1 yes, 0 no
abbrev pub flag_byte : Bool → ℕ
flag_byte flag = cond flag 1 0

-- the board that these bytes stand for
abbrev pub board_of : PanelBoard → Board
board_of b = record {
  running =
      yes (get_or b.running 0 0) ∷ yes (get_or b.running 1 0) ∷ yes (get_or b.running 2 0)
      ∷ yes (get_or b.running 3 0) ∷ [];
  overflow = yes b.overflow;
}

-- the bytes of a board
abbrev pub bytes_of : Board → PanelBoard
bytes_of b = record {
  running = flag_byte (runs b 0) ∷ flag_byte (runs b 1) ∷ flag_byte (runs b 2) ∷ flag_byte (runs b 3) ∷ [];
  overflow = flag_byte b.overflow;
}

-- ---- what crosses

-- document 02, W6: "a choice of which": 0 the first, anything else the latest
abbrev pub which_of : ℕ → Which
which_of choice = cond (eqb choice 0) First Latest

-- "Each accepted report gives a verdict: none, passed or failed.": 0, 1, 2
abbrev pub verdict_number : Verdict → ℕ
verdict_number None = 0
verdict_number Passed = 1
verdict_number Failed = 2

-- "grey if …, else red if …, else live": 0, 1, 2
abbrev pub paint_number : Paint → ℕ
paint_number Grey = 0
paint_number Red = 1
paint_number Live = 2

-- All that crosses, back to the caller: the answer's number; a report's verdict; the status, paint or length; where the
-- frame part starts; every lent block as the call leaves it; what was lent beside them, the output room and document
-- 02's counts; the board.
pub record Crossing : Type 0 where
  pub number : ℕ
  pub verdict : ℕ
  pub value : ℕ
  pub start : ℕ
  pub records : List ℕ
  pub debounce : List ℤ
  pub memory : List ℕ
  pub beside : Beside
  pub board : PanelBoard

-- "A refusal changes nothing lent and hands back the board it was given": its very bytes; a call that is done, the new
-- board
abbrev pub handed_back : Outcome → PanelBoard → PanelBoard
handed_back o found = cond (eqb o.answer 0) (bytes_of o.state.board) found

-- all that crosses, part by part
abbrev pub made : ℕ → ℕ → ℕ → ℕ → List ℕ → List ℤ → List ℕ → Beside → PanelBoard → Crossing
made number verdict value start records debounce memory beside board = record {
  number = number;
  verdict = verdict;
  value = value;
  start = start;
  records = records;
  debounce = debounce;
  memory = memory;
  beside = beside;
  board = board;
}

-- a call's outcome, with this value, this start, and this board for the caller
abbrev pub crossing : Outcome → ℕ → ℕ → PanelBoard → Crossing
crossing o value start board =
    made o.answer (verdict_number o.verdict) value start o.state.records o.state.debounce
    o.state.memory o.beside board

-- the outcome of a call that hands back a board, where these bytes were given
unfoldable pub crosses : Outcome → PanelBoard → Crossing
crosses o found = crossing o o.value 0 (handed_back o found)

-- the outcome of a call that hands back none: the caller's board stays as it is
unfoldable pub crosses_without_board : Outcome → PanelBoard → Crossing
crosses_without_board o found = crossing o o.value 0 found

-- the same of read frame: "a part of the caller's own memory block", where it starts and its length
unfoldable pub crosses_with_frame : FrameRead → PanelBoard → Crossing
crosses_with_frame f found = crossing f.outcome f.length f.start found

-- the same of read counter: beside all that, the counter, which has a sign
pub record CounterCrossing : Type 0 where
  pub rest : Crossing
  pub counter : ℤ

unfoldable pub crosses_with_counter : CounterRead → PanelBoard → CounterCrossing
crosses_with_counter c found = record { rest = crossing c.outcome 0 0 found; counter = c.counter }

-- the same of read missing: the value is how many are missing; beside all that, the lowest
pub record MissingCrossing : Type 0 where
  pub rest : Crossing
  pub lowest : ℕ

unfoldable pub crosses_with_missing : MissingRead → PanelBoard → MissingCrossing
crosses_with_missing m found =
    record { rest = crossing m.outcome m.outcome.value 0 found; lowest = m.lowest }

-- the same of read paint: the value is the paint
unfoldable pub crosses_with_paint : PaintRead → PanelBoard → Crossing
crosses_with_paint p found = crossing p.outcome (paint_number p.paint) 0 found

-- the same of read table: beside all that, the counts
pub record TableCrossing : Type 0 where
  pub rest : Crossing
  pub counts : List ℕ

unfoldable pub crosses_with_table : TableRead → PanelBoard → TableCrossing
crosses_with_table t found = record { rest = crossing t.outcome 0 0 found; counts = t.counts }

-- ---- a result, with the blocks as they are at the end of the call; what a result does not have is 0, or empty

module _ (records : List ℕ) (debounce : List ℤ) (memory : List ℕ) where
  -- fresh, tick, start, stop, clear and restore
  abbrev pub with_answer : Beside → PanelAnswer → Crossing
  with_answer b r = made r.number 0 0 0 records debounce memory b r.board

  -- report, with its verdict
  abbrev pub with_report : Beside → PanelReport → Crossing
  with_report b r = made r.number r.verdict 0 0 records debounce memory b r.board

  -- read status: the value is the status, the board the caller's
  abbrev pub with_status : PanelBoard → PanelStatus → Crossing
  with_status board r = made r.number 0 r.status 0 records debounce memory alone board

  -- read counter: the board is the caller's
  abbrev pub with_counter : PanelBoard → PanelCounter → CounterCrossing
  with_counter board r =
      record { rest = made r.number 0 0 0 records debounce memory alone board; counter = r.counter }

  -- read missing: the value is how many are missing, the board the caller's
  abbrev pub with_missing : PanelBoard → PanelMissing → MissingCrossing
  with_missing board r =
      record { rest = made r.number 0 r.count 0 records debounce memory alone board; lowest = r.lowest }

  -- read table: the board is the caller's
  abbrev pub with_table : PanelBoard → PanelTable → TableCrossing
  with_table board r = record { rest = made r.number 0 0 0 records debounce memory alone board; counts = r.counts }

  -- read paint: the value is the paint, the board the caller's
  abbrev pub with_paint : PanelBoard → PanelPaint → Crossing
  with_paint board r = made r.number 0 r.paint 0 records debounce memory alone board

  -- read frame: the value is the length, the board the caller's
  abbrev pub with_frame : PanelBoard → PanelFrame → Crossing
  with_frame board r = made r.number 0 r.length r.start records debounce memory alone board

  -- save and list grey: the value is the length, the board the caller's
  abbrev pub with_length : List ℕ → PanelBoard → PanelLength → Crossing
  with_length room board r = made r.number 0 r.length 0 records debounce memory (lent_room room) board

  -- a diagnostic request: the value is the length
  abbrev pub with_request : Beside → PanelRequest → Crossing
  with_request b r = made r.number 0 r.length 0 records debounce memory b r.board
