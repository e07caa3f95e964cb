-- Laws of specs/Panel.antt: an answer's number and value, and the board, once in bytes, are what crosses.
use mathlib.Core.Path.{◌≡◌, refl}
use mathlib.Core.Bool.{cond}
use mathlib.Core.List.{List, []}
use Prim.Native.Nat.{ℕ}
use lib.Dec.{eqb}
use lib.IntN.{ℤ, pos}
use Rattle.std.specs.Prelude.{Result, Ok, Err, ⊤}
use Rattle.std.specs.Result.{result_unwrap_or}
use Rattle.manual.specs.declared.Board.{Board}
use Rattle.manual.specs.declared.FramePart.{FramePart}
use Rattle.manual.specs.declared.Paint.{Paint}
use Rattle.manual.specs.declared.Paint.TheVariants.{Grey}
use Rattle.manual.specs.declared.Refusal.{Refusal}
use Rattle.manual.specs.declared.StillMissing.{StillMissing}
use Rattle.manual.specs.declared.Verdict.{Verdict}
use Rattle.manual.specs.declared.Verdict.TheVariants.{None}
use Rattle.manual.specs.State.{State, lent}
use Rattle.manual.specs.Answers.{Beside, alone, number_answered, of_answer, of_report, of_status, of_length, leaves}
use Rattle.manual.specs.Untested.{no_counts}
use Rattle.answers.proofs.NumbersAndValues.{none_told}
use Rattle.queries.specs.Reading.{tells, tells_missing, says}
use Rattle.untested.specs.Page.{table_told, paint_told}
use Rattle.grelpicado.specs.declared.PanelBoard.{PanelBoard}
use Rattle.grelpicado.specs.Panel.{bytes_of, verdict_number, paint_number, made, crosses, crosses_without_board}
use Rattle.grelpicado.specs.Panel.{crosses_with_counter, crosses_with_missing, crosses_with_table}
use Rattle.grelpicado.specs.Panel.{crosses_with_paint, crosses_with_frame}

-- ---- of calls that hand back a board

module _ (records : List ℕ) (debounce : List ℤ) (memory : List ℕ) (b : Beside) (after : Board) (found : PanelBoard) where
  abbrev pub back : ℕ → PanelBoard
  back number = cond (eqb number 0) (bytes_of after) found

  pub answer_crosses : (a : Result ⊤ Refusal)
      → made (number_answered a) 0 0 0 records debounce memory b (back (number_answered a))
      ≡ crosses (leaves (of_answer a) [] b (lent records debounce memory after)) found
  unfolding crosses
  answer_crosses (Ok t) = refl
  answer_crosses (Err r) = refl

  pub report_crosses : (a : Result Verdict Refusal)
      → made (number_answered a) (verdict_number (result_unwrap_or a None)) 0 0 records debounce memory b
      (back (number_answered a))
      ≡ crosses (leaves (of_report a) [] b (lent records debounce memory after)) found
  unfolding crosses
  report_crosses (Ok v) = refl
  report_crosses (Err r) = refl

  pub request_crosses : (a : Result ℕ Refusal)
      → made (number_answered a) 0 (result_unwrap_or a 0) 0 records debounce memory b (back (number_answered a))
      ≡ crosses (leaves (of_length a) [] b (lent records debounce memory after)) found
  unfolding crosses
  request_crosses (Ok length) = refl
  request_crosses (Err r) = refl

-- ---- of calls that hand back none

-- "a frame part empty"
abbrev pub no_part : FramePart
no_part = record { start = 0; length = 0 }

module _ (s : State) (found : PanelBoard) where
  pub status_crosses : (a : Result ℕ Refusal)
      → made (number_answered a) 0 (result_unwrap_or a 0) 0 s.records s.debounce s.memory alone found
      ≡ crosses_without_board (leaves (of_status a) [] alone s) found
  unfolding crosses_without_board
  status_crosses (Ok byte) = refl
  status_crosses (Err r) = refl

  pub length_crosses : (b : Beside) (a : Result ℕ Refusal)
      → made (number_answered a) 0 (result_unwrap_or a 0) 0 s.records s.debounce s.memory b found
      ≡ crosses_without_board (leaves (of_length a) [] b s) found
  unfolding crosses_without_board
  length_crosses b (Ok length) = refl
  length_crosses b (Err r) = refl

  pub counter_crosses : (a : Result ℤ Refusal)
      → record {
        rest = made (number_answered a) 0 0 0 s.records s.debounce s.memory alone found;
        counter = result_unwrap_or a (pos 0);
      }
      ≡ crosses_with_counter (tells a s) found
  unfolding crosses_with_counter
  counter_crosses (Ok z) = refl
  counter_crosses (Err r) = refl

  pub missing_crosses : (a : Result StillMissing Refusal)
      → record {
        rest = made (number_answered a) 0 (result_unwrap_or a none_told).count 0 s.records s.debounce s.memory alone
            found;
        lowest = (result_unwrap_or a none_told).lowest;
      }
      ≡ crosses_with_missing (tells_missing a s) found
  unfolding crosses_with_missing
  missing_crosses (Ok still) = refl
  missing_crosses (Err r) = refl

  pub table_crosses : (a : Result (List ℕ) Refusal)
      → record {
        rest = made (number_answered a) 0 0 0 s.records s.debounce s.memory alone found;
        counts = result_unwrap_or a no_counts;
      }
      ≡ crosses_with_table (table_told a s) found
  unfolding crosses_with_table
  table_crosses (Ok counts) = refl
  table_crosses (Err r) = refl

  pub paint_crosses : (a : Result Paint Refusal)
      → made (number_answered a) 0 (paint_number (result_unwrap_or a Grey)) 0 s.records s.debounce s.memory alone found
      ≡ crosses_with_paint (paint_told a s) found
  unfolding crosses_with_paint
  paint_crosses (Ok p) = refl
  paint_crosses (Err r) = refl

  pub frame_crosses : (a : Result FramePart Refusal)
      → made (number_answered a) 0 (result_unwrap_or a no_part).length (result_unwrap_or a no_part).start s.records
      s.debounce s.memory alone found
      ≡ crosses_with_frame (says a s) found
  unfolding crosses_with_frame
  frame_crosses (Ok part) = refl
  frame_crosses (Err r) = refl
