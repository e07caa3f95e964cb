-- The statement of each of the sixteen calls allows one outcome only: one result, and of every block, the room and the
-- counts, where the call may write them, one content, to the last byte.
use mathlib.Core.Path.{◌≡◌, refl, ap}
use mathlib.Core.List.{List}
use Prim.Native.Nat.{ℕ}
use lib.IntN.{ℤ}
use Rattle.manual.specs.Configuration.{Configuration}
use Rattle.manual.specs.State.{State, lent}
use Rattle.manual.specs.Answers.{Beside, lent_room, lent_counts, lent_both, alone}
use Rattle.manual.specs.Calls.{fresh, report, tick, start_cycle, stop_cycle, clear_code, read_status}
use Rattle.manual.specs.Counter.{counter_read}
use Rattle.manual.specs.Missing.{missing_read}
use Rattle.manual.specs.Untested.{table_read, paint_read, list_grey}
use Rattle.manual.specs.Image.{save, restore}
use Rattle.manual.specs.Diagnostics.{request_reply}
use Rattle.manual.proofs.OneOutcomeOnly.{one_outcome}
use Rattle.queries.specs.Reading.{frame_read}
use Rattle.grelpicado.specs.declared.PanelBoard.{PanelBoard}
use Rattle.grelpicado.specs.declared.PanelAnswer.{PanelAnswer}
use Rattle.grelpicado.specs.declared.PanelReport.{PanelReport}
use Rattle.grelpicado.specs.declared.PanelStatus.{PanelStatus}
use Rattle.grelpicado.specs.declared.PanelCounter.{PanelCounter}
use Rattle.grelpicado.specs.declared.PanelMissing.{PanelMissing}
use Rattle.grelpicado.specs.declared.PanelTable.{PanelTable}
use Rattle.grelpicado.specs.declared.PanelPaint.{PanelPaint}
use Rattle.grelpicado.specs.declared.PanelFrame.{PanelFrame}
use Rattle.grelpicado.specs.declared.PanelLength.{PanelLength}
use Rattle.grelpicado.specs.declared.PanelRequest.{PanelRequest}
use Rattle.grelpicado.specs.Panel.{board_of, Crossing, CounterCrossing, crosses, crosses_without_board}
use Rattle.grelpicado.specs.Panel.{crosses_with_counter, crosses_with_frame, with_answer, with_report, with_status}
use Rattle.grelpicado.specs.Panel.{which_of, with_counter, with_frame, with_length, with_request}
use Rattle.grelpicado.specs.Panel.{MissingCrossing, crosses_with_missing, with_missing}
use Rattle.grelpicado.specs.Panel.{TableCrossing, crosses_with_table, crosses_with_paint, with_table, with_paint}

-- the blocks that cross
same_blocks : {o y y' : Crossing} → y ≡ o → y' ≡ o
    → (y.records ≡ y'.records) × ((y.debounce ≡ y'.debounce) × (y.memory ≡ y'.memory))
same_blocks p q = (
  one_outcome (λ (y : Crossing). y.records) refl refl p q,
  (one_outcome (λ (y : Crossing). y.debounce) refl refl p q, one_outcome (λ (y : Crossing). y.memory) refl refl p q),
)

same_beside : {o y y' : Crossing} → y ≡ o → y' ≡ o → y.beside ≡ y'.beside
same_beside p q = one_outcome (λ (y : Crossing). y.beside) refl refl p q

same_room : {o y y' : Crossing} → y ≡ o → y' ≡ o → y.beside.room ≡ y'.beside.room
same_room p q = ap (λ (b : Beside). b.room) (same_beside p q)

-- the blocks and the counts
same_lent : {o y y' : Crossing} → y ≡ o → y' ≡ o
    → ((y.records ≡ y'.records) × ((y.debounce ≡ y'.debounce) × (y.memory ≡ y'.memory)))
    × (y.beside.counts ≡ y'.beside.counts)
same_lent p q = (same_blocks p q, ap (λ (b : Beside). b.counts) (same_beside p q))

abbrev answer_in : Crossing → PanelAnswer
answer_in x = record { number = x.number; board = x.board }

abbrev report_in : Crossing → PanelReport
report_in x = record { number = x.number; verdict = x.verdict; board = x.board }

abbrev status_in : Crossing → PanelStatus
status_in x = record { number = x.number; status = x.value }

abbrev counter_in : CounterCrossing → PanelCounter
counter_in x = record { number = x.rest.number; counter = x.counter }

abbrev missing_in : MissingCrossing → PanelMissing
missing_in x = record { number = x.rest.number; count = x.rest.value; lowest = x.lowest }

abbrev table_in : TableCrossing → PanelTable
table_in x = record { number = x.rest.number; counts = x.counts }

abbrev paint_in : Crossing → PanelPaint
paint_in x = record { number = x.number; paint = x.value }

abbrev frame_in : Crossing → PanelFrame
frame_in x = record { number = x.number; start = x.start; length = x.value }

abbrev length_in : Crossing → PanelLength
length_in x = record { number = x.number; length = x.value }

abbrev request_in : Crossing → PanelRequest
request_in x = record { number = x.number; length = x.value; board = x.board }

-- what a call is given: the blocks and the board
module _ (cfg : Configuration) (records₀ : List ℕ) (debounce₀ : List ℤ) (memory₀ : List ℕ) (board : PanelBoard) where
  abbrev given : State
  given = lent records₀ debounce₀ memory₀ (board_of board)

  -- ---- calls that may write every block of the state and the counts, and hand back the board

  module _ (counts₀ : List ℕ) (records records' : List ℕ) (debounce debounce' : List ℤ) (memory memory' : List ℕ)
      (counts counts' : List ℕ) where
    module _ (r r' : PanelAnswer) where
      pub one_fresh :
          with_answer records debounce memory (lent_counts counts) r
          ≡ crosses (fresh cfg (lent_counts counts₀) given) board
          → with_answer records' debounce' memory' (lent_counts counts') r'
          ≡ crosses (fresh cfg (lent_counts counts₀) given) board
          → (r ≡ r') × (((records ≡ records') × ((debounce ≡ debounce') × (memory ≡ memory'))) × (counts ≡ counts'))
      one_fresh p q = (one_outcome answer_in refl refl p q, same_lent p q)

      pub one_tick : (ms : ℕ) (frame : List ℕ) (present : ℕ)
          → with_answer records debounce memory (lent_counts counts) r
          ≡ crosses (tick cfg ms frame present (lent_counts counts₀) given) board
          → with_answer records' debounce' memory' (lent_counts counts') r'
          ≡ crosses (tick cfg ms frame present (lent_counts counts₀) given) board
          → (r ≡ r') × (((records ≡ records') × ((debounce ≡ debounce') × (memory ≡ memory'))) × (counts ≡ counts'))
      one_tick ms frame present p q = (one_outcome answer_in refl refl p q, same_lent p q)

      pub one_stop : (cycle : ℕ)
          → with_answer records debounce memory (lent_counts counts) r
          ≡ crosses (stop_cycle cfg cycle (lent_counts counts₀) given) board
          → with_answer records' debounce' memory' (lent_counts counts') r'
          ≡ crosses (stop_cycle cfg cycle (lent_counts counts₀) given) board
          → (r ≡ r') × (((records ≡ records') × ((debounce ≡ debounce') × (memory ≡ memory'))) × (counts ≡ counts'))
      one_stop cycle p q = (one_outcome answer_in refl refl p q, same_lent p q)

      pub one_clear : (code : ℕ)
          → with_answer records debounce memory (lent_counts counts) r
          ≡ crosses (clear_code cfg code (lent_counts counts₀) given) board
          → with_answer records' debounce' memory' (lent_counts counts') r'
          ≡ crosses (clear_code cfg code (lent_counts counts₀) given) board
          → (r ≡ r') × (((records ≡ records') × ((debounce ≡ debounce') × (memory ≡ memory'))) × (counts ≡ counts'))
      one_clear code p q = (one_outcome answer_in refl refl p q, same_lent p q)

      pub one_restore : (image : List ℕ)
          → with_answer records debounce memory (lent_counts counts) r
          ≡ crosses (restore cfg image (lent_counts counts₀) given) board
          → with_answer records' debounce' memory' (lent_counts counts') r'
          ≡ crosses (restore cfg image (lent_counts counts₀) given) board
          → (r ≡ r') × (((records ≡ records') × ((debounce ≡ debounce') × (memory ≡ memory'))) × (counts ≡ counts'))
      one_restore image p q = (one_outcome answer_in refl refl p q, same_lent p q)

    pub one_report : (event code : ℕ) (frame : List ℕ) (present : ℕ) (r r' : PanelReport)
        → with_report records debounce memory (lent_counts counts) r
        ≡ crosses (report cfg event code frame present (lent_counts counts₀) given) board
        → with_report records' debounce' memory' (lent_counts counts') r'
        ≡ crosses (report cfg event code frame present (lent_counts counts₀) given) board
        → (r ≡ r') × (((records ≡ records') × ((debounce ≡ debounce') × (memory ≡ memory'))) × (counts ≡ counts'))
    one_report event code frame present r r' p q = (one_outcome report_in refl refl p q, same_lent p q)

    -- the room too
    pub one_request : (request before room room' : List ℕ) (r r' : PanelRequest)
        → with_request records debounce memory (lent_both room counts) r
        ≡ crosses (request_reply cfg request (lent_both before counts₀) given) board
        → with_request records' debounce' memory' (lent_both room' counts') r'
        ≡ crosses (request_reply cfg request (lent_both before counts₀) given) board
        → (r ≡ r')
        × ((((records ≡ records') × ((debounce ≡ debounce') × (memory ≡ memory'))) × (counts ≡ counts'))
        × (room ≡ room'))
    one_request request before room room' r r' p q =
        (one_outcome request_in refl refl p q, (same_lent p q, same_room p q))

  -- ---- start may write the records alone

  pub one_start : (cycle : ℕ) (records records' : List ℕ) (r r' : PanelAnswer)
      → with_answer records debounce₀ memory₀ alone r ≡ crosses (start_cycle cfg cycle alone given) board
      → with_answer records' debounce₀ memory₀ alone r' ≡ crosses (start_cycle cfg cycle alone given) board
      → (r ≡ r') × (records ≡ records')
  one_start cycle records records' r r' p q = (one_outcome answer_in refl refl p q, (same_blocks p q).0)

  -- ---- calls that may write no block of the state, and hand back no board

  pub one_read_status : (event : ℕ) (r r' : PanelStatus)
      → with_status records₀ debounce₀ memory₀ board r ≡ crosses_without_board (read_status cfg event alone given) board
      → with_status records₀ debounce₀ memory₀ board r' ≡ crosses_without_board (read_status cfg event alone given) board
      → r ≡ r'
  one_read_status event r r' p q = one_outcome status_in refl refl p q

  pub one_read_counter : (event : ℕ) (r r' : PanelCounter)
      → with_counter records₀ debounce₀ memory₀ board r ≡ crosses_with_counter (counter_read cfg event alone given) board
      → with_counter records₀ debounce₀ memory₀ board r' ≡ crosses_with_counter (counter_read cfg event alone given) board
      → r ≡ r'
  one_read_counter event r r' p q = one_outcome counter_in refl refl p q

  pub one_read_missing : (event present : ℕ) (r r' : PanelMissing)
      → with_missing records₀ debounce₀ memory₀ board r
      ≡ crosses_with_missing (missing_read cfg event present alone given) board
      → with_missing records₀ debounce₀ memory₀ board r'
      ≡ crosses_with_missing (missing_read cfg event present alone given) board
      → r ≡ r'
  one_read_missing event present r r' p q = one_outcome missing_in refl refl p q

  pub one_read_table : (r r' : PanelTable)
      → with_table records₀ debounce₀ memory₀ board r ≡ crosses_with_table (table_read cfg alone given) board
      → with_table records₀ debounce₀ memory₀ board r' ≡ crosses_with_table (table_read cfg alone given) board
      → r ≡ r'
  one_read_table r r' p q = one_outcome table_in refl refl p q

  pub one_read_paint : (event : ℕ) (r r' : PanelPaint)
      → with_paint records₀ debounce₀ memory₀ board r ≡ crosses_with_paint (paint_read cfg event alone given) board
      → with_paint records₀ debounce₀ memory₀ board r' ≡ crosses_with_paint (paint_read cfg event alone given) board
      → r ≡ r'
  one_read_paint event r r' p q = one_outcome paint_in refl refl p q

  pub one_read_frame : (event which : ℕ) (r r' : PanelFrame)
      → with_frame records₀ debounce₀ memory₀ board r ≡ crosses_with_frame (frame_read cfg event
      (which_of which) given) board
      → with_frame records₀ debounce₀ memory₀ board r'
      ≡ crosses_with_frame (frame_read cfg event (which_of which) given) board
      → r ≡ r'
  one_read_frame event which r r' p q = one_outcome frame_in refl refl p q

  -- save writes the room
  pub one_save : (before room room' : List ℕ) (r r' : PanelLength)
      → with_length records₀ debounce₀ memory₀ room board r
      ≡ crosses_without_board (save cfg (lent_room before) given) board
      → with_length records₀ debounce₀ memory₀ room' board r'
      ≡ crosses_without_board (save cfg (lent_room before) given) board
      → (r ≡ r') × (room ≡ room')
  one_save before room room' r r' p q = (one_outcome length_in refl refl p q, same_room p q)

  -- list grey writes the list
  pub one_list_grey : (before list list' : List ℕ) (r r' : PanelLength)
      → with_length records₀ debounce₀ memory₀ list board r
      ≡ crosses_without_board (list_grey cfg (lent_room before) given) board
      → with_length records₀ debounce₀ memory₀ list' board r'
      ≡ crosses_without_board (list_grey cfg (lent_room before) given) board
      → (r ≡ r') × (list ≡ list')
  one_list_grey before list list' r r' p q = (one_outcome length_in refl refl p q, same_room p q)
