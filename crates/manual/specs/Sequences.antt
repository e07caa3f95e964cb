-- Sequences of calls, and each event's history in them: what the status byte is to be read off. Assumes nothing.
use Rattle.std.specs.Prelude.{◌≡◌, Bool, true, false, not, ◌&&◌, cond, List, [], ◌∷◌, ◌++◌, ℕ, take, ℤ, eqb}
use Rattle.history.specs.History.{Token, passed, failed, start, stop, clear, History}
use Rattle.manual.specs.declared.Board.{Board}
use Rattle.manual.specs.declared.Verdict.{Verdict}
use Rattle.manual.specs.declared.Verdict.TheVariants.{None, Passed, Failed}
use Rattle.manual.specs.declared.Which.{Which}
use Rattle.manual.specs.Words.{three_at}
use Rattle.manual.specs.Configuration.{Configuration}
use Rattle.manual.specs.State.{State, D}
use Rattle.manual.specs.Answers.{Beside, Outcome, Rule}
use Rattle.manual.specs.Debouncing.{reported, ticked}
use Rattle.manual.specs.Calls.{fresh_rules, report_rules, tick_rules, start_rules, stop_rules, clear_rules}
use Rattle.manual.specs.Calls.{read_status_rules, read_frame_rules, fresh, report, tick, start_cycle, stop_cycle}
use Rattle.manual.specs.Calls.{clear_code, read_status, read_frame, tick_moves, of_cycle, covers}
use Rattle.manual.specs.Calls.{report_log, tick_log, stop_log, clear_log}
use Rattle.manual.specs.Counts.{Happening}
use Rattle.manual.specs.Counter.{read_counter_rules, read_counter}
use Rattle.manual.specs.Missing.{read_missing_rules, read_missing}
use Rattle.manual.specs.Untested.{read_table_rules, read_paint_rules, list_grey_rules, read_table, read_paint, list_grey}
use Rattle.manual.specs.Image.{save_rules, restore_rules, save, restore}
use Rattle.manual.specs.Diagnostics.{asks_clear, request_rules, request_reply}

-- the calls that only read the blocks and the board, with any arguments whatever
pub data Query : Type 0 where
  ReadStatus ReadCounter ReadPaint : ℕ → Query
  ReadFrame : ℕ → Which → Query
  ReadMissing : ℕ → ℕ → Query
  ReadTable ListGrey Save : Query

-- all sixteen calls, with any arguments whatever
pub data Call : Type 0 where
  Fresh : Call
  Report : ℕ → ℕ → List ℕ → ℕ → Call
  Tick : ℕ → List ℕ → ℕ → Call
  Start Stop Clear : ℕ → Call
  Read : Query → Call
  Restore Request : List ℕ → Call

-- "A verdict other than none is a qualified result."
abbrev pub result : Verdict → List Token
result None = []
result Passed = passed ∷ []
result Failed = failed ∷ []

abbrev pub only_if : Bool → List Token → List Token
only_if test tokens = cond test tokens []

-- the image that a save wrote
abbrev pub saved_image : Outcome → List ℕ
saved_image o = take o.value o.beside.room

-- a fresh or a restore, which begins anew where it is accepted
abbrev pub begins_anew : Call → Bool
begins_anew Fresh = true
begins_anew (Report k code frame present) = false
begins_anew (Tick ms frame present) = false
begins_anew (Start c) = false
begins_anew (Stop c) = false
begins_anew (Clear code) = false
begins_anew (Read q) = false
begins_anew (Restore image) = true
begins_anew (Request bytes) = false

module _ (cfg : Configuration) where
  abbrev pub answer_to : Query → Beside → State → Outcome
  answer_to (ReadStatus k) b s = read_status cfg k b s
  answer_to (ReadFrame k which) b s = read_frame cfg k which b s
  answer_to (ReadCounter k) b s = read_counter cfg k b s
  answer_to (ReadMissing k present) b s = read_missing cfg k present b s
  answer_to ReadTable b s = read_table cfg b s
  answer_to (ReadPaint k) b s = read_paint cfg k b s
  answer_to ListGrey b s = list_grey cfg b s
  answer_to Save b s = save cfg b s

  abbrev pub outcome : Call → Beside → State → Outcome
  outcome Fresh b s = fresh cfg b s
  outcome (Report k code frame present) b s = report cfg k code frame present b s
  outcome (Tick ms frame present) b s = tick cfg ms frame present b s
  outcome (Start c) b s = start_cycle cfg c b s
  outcome (Stop c) b s = stop_cycle cfg c b s
  outcome (Clear code) b s = clear_code cfg code b s
  outcome (Read q) b s = answer_to q b s
  outcome (Restore image) b s = restore cfg image b s
  outcome (Request bytes) b s = request_reply cfg bytes b s

  -- the list of refusals of a call, in its order
  abbrev pub query_rules : Query → Beside → State → List Rule
  query_rules (ReadStatus k) b s = read_status_rules cfg k s
  query_rules (ReadFrame k which) b s = read_frame_rules cfg k s
  query_rules (ReadCounter k) b s = read_counter_rules cfg k s
  query_rules (ReadMissing k present) b s = read_missing_rules cfg k s
  query_rules ReadTable b s = read_table_rules cfg s
  query_rules (ReadPaint k) b s = read_paint_rules cfg k s
  query_rules ListGrey b s = list_grey_rules cfg b s
  query_rules Save b s = save_rules cfg b s

  abbrev pub rules_of : Call → Beside → State → List Rule
  rules_of Fresh b s = fresh_rules cfg b s
  rules_of (Report k code frame present) b s = report_rules cfg k code frame present b s
  rules_of (Tick ms frame present) b s = tick_rules cfg ms frame present b s
  rules_of (Start c) b s = start_rules cfg c s
  rules_of (Stop c) b s = stop_rules cfg c b s
  rules_of (Clear code) b s = clear_rules cfg code b s
  rules_of (Read q) b s = query_rules q b s
  rules_of (Restore image) b s = restore_rules cfg image b s
  rules_of (Request bytes) b s = request_rules cfg bytes b s

  -- what an accepted call gives event e, by the board b and the event's own debounce number d: no status, K, h or g is
  -- looked at. Document 02, W5: "a tick counts for an event only while its conditions hold"
  abbrev pub gives : Call → Board → ℕ → ℤ → List Token
  gives Fresh b e d = []
  gives (Report k code frame present) b e d = only_if (eqb e k) (result (reported cfg e code d).verdict)
  gives (Tick ms frame present) b e d = only_if (tick_moves cfg present b e) (result (ticked cfg e ms d).verdict)
  gives (Start c) b e d = only_if (of_cycle cfg c e) (start ∷ [])
  gives (Stop c) b e d = only_if (of_cycle cfg c e) (stop ∷ [])
  gives (Clear code) b e d = only_if (covers cfg code e) (clear ∷ [])
  gives (Read q) b e d = []
  gives (Restore image) b e d = []
  gives (Request bytes) b e d = only_if (asks_clear cfg bytes && covers cfg (three_at 1 bytes) e) (clear ∷ [])

  -- "Refused calls and other events' reports count for nothing."
  unfoldable pub tokens : ℕ → Call → Board → ℕ → ℤ → List Token
  tokens answer c b e d = only_if (eqb answer 0) (gives c b e d)

  -- the tokens that a call on state s, with this lent beside it, gives each event
  abbrev pub tokens_at : Call → Beside → State → ℕ → List Token
  tokens_at c b s e = tokens (outcome c b s).answer c s.board e (D s e)

  -- document 02, W7: what becomes of entries in an accepted call, the newest first; a request's is that of the clear
  -- that it asks for
  abbrev pub log_of : Call → State → List Happening
  log_of Fresh s = []
  log_of (Report k code frame present) s = report_log cfg k code frame s
  log_of (Tick ms frame present) s = tick_log cfg ms frame present s
  log_of (Start c) s = []
  log_of (Stop c) s = stop_log cfg c s
  log_of (Clear code) s = clear_log cfg code s
  log_of (Read q) s = []
  log_of (Restore image) s = []
  log_of (Request bytes) s = cond (asks_clear cfg bytes) (clear_log cfg (three_at 1 bytes) s) []

  -- what becomes of them in a call on state s, with this lent beside it: nothing in a refused one
  abbrev pub log_at : Call → Beside → State → List Happening
  log_at c b s = cond (eqb (outcome c b s).answer 0) (log_of c s) []

  -- the call neither makes a second fresh state nor restores one
  abbrev pub carries_on : Call → Beside → State → Bool
  carries_on c b s = not (begins_anew c && eqb (outcome c b s).answer 0)

  -- A state that calls lead to, with each event's history. Whatever is lent beside it may be anything at each call.
  pub data Reached : State → (ℕ → History) → Type 0 where
    -- "From a fresh state": the public fresh on any blocks and board that it accepts
    begun : (b : Beside) (s : State) → (fresh cfg b s).answer ≡ 0 → Reached (fresh cfg b s).state (λ e. [])
    -- any call with any arguments, accepted or refused, "without a restore or a second fresh state"
    called : {s : State} {H : ℕ → History} → Reached s H → (c : Call) (b : Beside) → carries_on c b s ≡ true
        → Reached (outcome c b s).state (λ e. tokens_at c b s e ++ H e)
    -- "After restoring an image saved in that sequence, the history is the one up to that save, then what follows.":
    -- restored into any blocks that restore accepts, as after a power cut they and the board may hold anything
    restored : {s : State} {H : ℕ → History} → Reached s H → (b : Beside) → (save cfg b s).answer ≡ 0
        → (b' : Beside) (s' : State) → (restore cfg (saved_image (save cfg b s)) b' s').answer ≡ 0
        → Reached (restore cfg (saved_image (save cfg b s)) b' s').state H
