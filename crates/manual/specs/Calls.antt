-- Document 01: what each call does, from its refusals in their order to the last byte. Save and restore stand in
-- Image.antt, the diagnostic request in Diagnostics.antt. Assumes nothing.
use Rattle.std.specs.Prelude.{Bool, true, false, not, ◌&&◌, ◌||◌, List, [], ◌∷◌, ℕ, zero, suc, length, replicate, pos, eqb, leb, ltb}
use Rattle.std.proofs.Math.Option.{Option, none, some}
use Rattle.history.specs.StatusByte.{fresh_record}
use Rattle.history.specs.History.{start}
use Rattle.manual.specs.declared.Board.{Board}
use Rattle.manual.specs.declared.Verdict.TheVariants.{None}
use Rattle.manual.specs.declared.StoreAnswer.{StoreAnswer}
use Rattle.manual.specs.declared.Which.{Which}
use Rattle.manual.specs.declared.Which.TheVariants.{First, Latest}
use Rattle.manual.specs.Words.{all_below}
use Rattle.manual.specs.Configuration.{Configuration, events, places, frame_bytes, entry_frames}
use Rattle.manual.specs.Configuration.{code_of, cycle_of, is_internal, is_time, config_ok}
use Rattle.manual.specs.State.{State, stored, runs, all_stopped, status_byte, D, with_d, with_overflow, with_cycle}
use Rattle.manual.specs.WellFormed.{lengths_fit, well_formed, entries}
use Rattle.manual.specs.Answers.{Beside, with_counts, Outcome, done, Rule, ◌if◌, judged}
use Rattle.manual.specs.Debouncing.{Debounced, reported, ticked}
use Rattle.manual.specs.Conditions.{enabled}
use Rattle.manual.specs.OneEvent.{has_entry, happens, qualifies, qualifies_did, stops, clears, for_those}
use Rattle.manual.specs.Memory.{Entry, first_frame, latest_frame, memory_length, entry_for}
use Rattle.manual.specs.Counts.{Happening, of_store, log_those, stops_log, clears_log, carries_past, with_rise}
use Rattle.manual.specs.Counts.{counts_fit, no_counts}

-- the bytes of n fresh records
unfoldable pub fresh_records : ℕ → List ℕ
fresh_records zero = []
fresh_records (suc n) =
    (stored fresh_record).status ∷ (stored fresh_record).K ∷ (stored fresh_record).h ∷ (stored fresh_record).g ∷ fresh_records n

-- "FFFFFFh for all"
abbrev pub for_all : ℕ → Bool
for_all code = eqb code 0xFFFFFF

-- document 02, W6: "Reading a frame takes a choice of which, and hands back that part of the block."
abbrev pub chosen : Which → ℕ → List ℕ → List ℕ
chosen First F payload = first_frame F payload
chosen Latest F payload = latest_frame F payload

abbrev pub frame_of : Which → ℕ → Option Entry → List ℕ
frame_of which F (some x) = chosen which F x.payload
frame_of which F none = []

module _ (cfg : Configuration) where
  -- "Every call begins 2, 3."; "a block has the wrong length": `fits` says whether what is lent beside the state has
  -- the right one; document 02, W7: "A slice of another length is 3."
  abbrev pub begins : State → Bool → List Rule → List Rule
  begins s fits rules = (2 if not (config_ok cfg)) ∷ (3 if not (fits && well_formed cfg s)) ∷ rules

  -- "For restore and for making a fresh state, 3 judges lengths only."
  abbrev pub begins_with_lengths : State → Bool → List Rule → List Rule
  begins_with_lengths s fits rules = (2 if not (config_ok cfg)) ∷ (3 if not (fits && lengths_fit cfg s)) ∷ rules

  -- "4 | no such event, cycle (above 3)"
  abbrev pub no_such_event : ℕ → Bool
  no_such_event e = leb (events cfg) e

  abbrev pub no_such_cycle : ℕ → Bool
  no_such_cycle c = ltb 3 c

  -- "9 | lent frame is not F bytes"
  abbrev pub wrong_frame : List ℕ → Bool
  wrong_frame frame = not (eqb (length frame) (frame_bytes cfg))

  -- event e's cycle runs
  abbrev pub cycle_runs : Board → ℕ → Bool
  cycle_runs b e = runs b (cycle_of cfg e)

  -- ---- fresh

  -- "Fresh: status 50h, K = h = g = 0, D = 0, memory empty (all bytes 0), cycles stopped, overflow clear."
  unfoldable pub fresh_state : State
  fresh_state = record {
    records = fresh_records (events cfg);
    debounce = replicate (events cfg) (pos 0);
    memory = replicate (memory_length (places cfg) (entry_frames cfg)) 0;
    board = record { running = all_stopped; overflow = false };
  }

  unfoldable pub fresh_rules : Beside → State → List Rule
  fresh_rules b s = begins_with_lengths s (counts_fit b.counts) []

  -- W7: "A fresh state zeroes all five."
  unfoldable pub fresh : Beside → State → Outcome
  fresh b s = judged (fresh_rules b s) b s (done (with_counts no_counts b) fresh_state)

  -- ---- report: "report 4, 1, 6, 9, 5"; document 02, W5: "A report whose needed conditions aren't all present is
  -- refused with new number 11, checked last."; W7: "A report, tick, stop, clear or clearing diagnostic request whose
  -- whole rise would carry any count past 4,294,967,295 is refused with new number 12, checked last."

  -- the new D, then what the verdict does
  unfoldable pub applied : List ℕ → ℕ → Debounced → State → State
  applied frame e d s = qualifies cfg frame e d.verdict (with_d e d.number s)

  -- what memory did at it
  unfoldable pub applied_did : List ℕ → ℕ → Debounced → State → StoreAnswer
  applied_did frame e d s = qualifies_did cfg frame e d.verdict (with_d e d.number s)

  abbrev pub debounced_by : ℕ → ℕ → State → Debounced
  debounced_by e code s = reported cfg e code (D s e)

  abbrev pub report_did : ℕ → ℕ → List ℕ → State → StoreAnswer
  report_did e code frame s = applied_did frame e (debounced_by e code s) s

  -- W7: what becomes of entries in it
  unfoldable pub report_log : ℕ → ℕ → List ℕ → State → List Happening
  report_log e code frame s = of_store e (report_did e code frame s)

  unfoldable pub report_rules : ℕ → ℕ → List ℕ → ℕ → Beside → State → List Rule
  report_rules e code frame present b s =
      begins s (counts_fit b.counts)
      ((4 if no_such_event e)
      ∷ (1 if ltb 3 code)
      ∷ (6 if (is_internal cfg e && ltb 1 code))
      ∷ (9 if wrong_frame frame)
      ∷ (5 if not (cycle_runs s.board e))
      ∷ (11 if not (enabled cfg present e))
      ∷ (12 if carries_past (report_log e code frame s) b.counts)
      ∷ [])

  abbrev pub report_done : ℕ → ℕ → List ℕ → Beside → State → Outcome
  report_done e code frame b s = record {
    answer = 0;
    verdict = (debounced_by e code s).verdict;
    value = 0;
    part = [];
    beside = with_rise (report_log e code frame s) b;
    state = applied frame e (debounced_by e code s) s;
  }

  unfoldable pub report : ℕ → ℕ → List ℕ → ℕ → Beside → State → Outcome
  report e code frame present b s = judged (report_rules e code frame present b s) b s (report_done e code frame b s)

  -- ---- tick: "tick 1, 9", and W7's 12

  -- "events in rising number, only kind 2 with its cycle running"
  abbrev pub time_runs : Board → ℕ → Bool
  time_runs b e = is_time cfg e && cycle_runs b e

  -- W5: "A tick doesn't move such an event's D.": one whose needed conditions are not all present
  abbrev pub tick_moves : ℕ → Board → ℕ → Bool
  tick_moves present b e = time_runs b e && enabled cfg present e

  -- "Every event so qualified takes the lent frame."
  abbrev pub ticks : ℕ → List ℕ → ℕ → State → State
  ticks ms frame e s = applied frame e (ticked cfg e ms (D s e)) s

  abbrev pub ticks_did : ℕ → List ℕ → ℕ → State → StoreAnswer
  ticks_did ms frame e s = applied_did frame e (ticked cfg e ms (D s e)) s

  unfoldable pub tick_log : ℕ → List ℕ → ℕ → State → List Happening
  tick_log ms frame present s =
      log_those cfg (tick_moves present s.board) (ticks ms frame) (λ e u. of_store e (ticks_did ms frame e u)) s

  unfoldable pub tick_rules : ℕ → List ℕ → ℕ → Beside → State → List Rule
  tick_rules ms frame present b s =
      begins s (counts_fit b.counts)
      ((1 if ltb 60000 ms)
      ∷ (9 if wrong_frame frame)
      ∷ (12 if carries_past (tick_log ms frame present s) b.counts)
      ∷ [])

  unfoldable pub tick : ℕ → List ℕ → ℕ → Beside → State → Outcome
  tick ms frame present b s =
      judged (tick_rules ms frame present b s) b s
      (done (with_rise (tick_log ms frame present s) b)
      (for_those cfg (tick_moves present s.board) (ticks ms frame) s))

  -- ---- start and stop of a cycle: "start and stop 4, 5", and of a stop W7's 12

  abbrev pub of_cycle : ℕ → ℕ → Bool
  of_cycle c e = eqb (cycle_of cfg e) c

  unfoldable pub start_rules : ℕ → State → List Rule
  start_rules c s = begins s true ((4 if no_such_cycle c) ∷ (5 if runs s.board c) ∷ [])

  unfoldable pub start_cycle : ℕ → Beside → State → Outcome
  start_cycle c b s =
      judged (start_rules c s) b s (done b (with_cycle c true (for_those cfg (of_cycle c) (happens cfg start) s)))

  unfoldable pub stop_log : ℕ → State → List Happening
  stop_log c s = log_those cfg (of_cycle c) (stops cfg) (stops_log cfg) s

  unfoldable pub stop_rules : ℕ → Beside → State → List Rule
  stop_rules c b s =
      begins s (counts_fit b.counts)
      ((4 if no_such_cycle c) ∷ (5 if not (runs s.board c)) ∷ (12 if carries_past (stop_log c s) b.counts) ∷ [])

  unfoldable pub stop_cycle : ℕ → Beside → State → Outcome
  stop_cycle c b s =
      judged (stop_rules c b s) b s
      (done (with_rise (stop_log c s) b) (with_cycle c false (for_those cfg (of_cycle c) (stops cfg) s)))

  -- ---- clear: "clear 4", and W7's 12

  -- "Clear, by one trouble code or FFFFFFh for all"
  abbrev pub covers : ℕ → ℕ → Bool
  covers code e = for_all code || eqb (code_of cfg e) code

  -- "4 | no such … trouble code"
  unfoldable pub unknown_code : ℕ → Bool
  unknown_code code = all_below (events cfg) (λ e. not (covers code e))

  -- "clearing all also clears overflow"
  abbrev pub overflow_cleared : ℕ → State → State
  overflow_cleared code s = with_overflow (s.board.overflow && not (for_all code)) s

  unfoldable pub cleared : ℕ → State → State
  cleared code s = overflow_cleared code (for_those cfg (covers code) (clears cfg) s)

  unfoldable pub clear_log : ℕ → State → List Happening
  clear_log code s = log_those cfg (covers code) (clears cfg) (clears_log cfg) s

  unfoldable pub clear_rules : ℕ → Beside → State → List Rule
  clear_rules code b s =
      begins s (counts_fit b.counts)
      ((4 if unknown_code code) ∷ (12 if carries_past (clear_log code s) b.counts) ∷ [])

  unfoldable pub clear_code : ℕ → Beside → State → Outcome
  clear_code code b s = judged (clear_rules code b s) b s (done (with_rise (clear_log code s) b) (cleared code s))

  -- ---- read status: "read status 4"

  unfoldable pub read_status_rules : ℕ → State → List Rule
  read_status_rules e s = begins s true ((4 if no_such_event e) ∷ [])

  unfoldable pub read_status : ℕ → Beside → State → Outcome
  read_status e b s =
      judged (read_status_rules e s) b s
      (record { answer = 0; verdict = None; value = status_byte s e; part = []; beside = b; state = s })

  -- ---- read frame: "read frame 4, 10"

  -- "10 | event has no memory entry"
  unfoldable pub read_frame_rules : ℕ → State → List Rule
  read_frame_rules e s = begins s true ((4 if no_such_event e) ∷ (10 if not (has_entry cfg s e)) ∷ [])

  -- "The stored frame is read as a part of the caller's own memory block"
  unfoldable pub read_frame : ℕ → Which → Beside → State → Outcome
  read_frame e which b s =
      judged (read_frame_rules e s) b s
      (record {
        answer = 0;
        verdict = None;
        value = 0;
        part = frame_of which (frame_bytes cfg) (entry_for e (entries cfg s));
        beside = b;
        state = s;
      })
