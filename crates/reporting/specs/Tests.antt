-- The refusals of report and tick that follow 2 and 3. Assumes nothing.
use Rattle.std.specs.Prelude.{not, ◌&&◌, List, [], ◌∷◌, ◌++◌, ℕ, ltb}
use Rattle.manual.specs.declared.Board.{Board}
use Rattle.manual.specs.Configuration.{Configuration, is_internal}
use Rattle.manual.specs.State.{State}
use Rattle.manual.specs.Answers.{Rule, ◌if◌}
use Rattle.manual.specs.Conditions.{enabled}
use Rattle.manual.specs.Counts.{Happening, carries_past}
use Rattle.manual.specs.Calls.{no_such_event, wrong_frame, cycle_runs, report_log, tick_log}

-- document 02, W7: "refused with new number 12, checked last"
abbrev pub limit_test : List Happening → List ℕ → List Rule
limit_test log counts = (12 if carries_past log counts) ∷ []

module _ (cfg : Configuration) where
  -- "report …, 6, 9, 5" and 11, of an event that has a row
  abbrev pub row_tests : Board → ℕ → ℕ → List ℕ → ℕ → List Rule
  row_tests b e code frame present =
      (6 if (is_internal cfg e && ltb 1 code)) ∷ (9 if wrong_frame cfg frame) ∷ (5 if not (cycle_runs cfg b e))
      ∷ (11 if not (enabled cfg present e)) ∷ []

  -- "report 4, 1, 6, 9, 5" and 11
  abbrev pub report_tests : Board → ℕ → ℕ → List ℕ → ℕ → List Rule
  report_tests b e code frame present = (4 if no_such_event cfg e) ∷ (1 if ltb 3 code) ∷ row_tests b e code frame present

  -- and 12
  abbrev pub all_report_tests : ℕ → ℕ → List ℕ → ℕ → List ℕ → State → List Rule
  all_report_tests e code frame present counts s =
      report_tests s.board e code frame present ++ limit_test (report_log cfg e code frame s) counts

  -- "tick 1, 9"
  abbrev pub tick_tests : ℕ → List ℕ → List Rule
  tick_tests ms frame = (1 if ltb 60000 ms) ∷ (9 if wrong_frame cfg frame) ∷ []

  -- and 12
  abbrev pub all_tick_tests : ℕ → List ℕ → ℕ → List ℕ → State → List Rule
  all_tick_tests ms frame present counts s = tick_tests ms frame ++ limit_test (tick_log cfg ms frame present s) counts
