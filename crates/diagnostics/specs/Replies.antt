-- What the functions of this crate ask and answer, in the words of the manual's specs/Diagnostics.antt. Assumes
-- nothing.
use Rattle.std.specs.Prelude.{◌≡◌, Bool, true, false, not, ◌&&◌, cond, List, [], ◌∷◌, ◌++◌, ℕ, ◌+◌, ◌<◌, ◌≤◌, ℤ, eqb, ltb, length, get_or, Result, Ok, Err}
use Rattle.std.specs.Prelude as library
use Rattle.std.proofs.Math.Option.{Option, none, some}
use Rattle.manual.specs.declared.Board.{Board}
use Rattle.manual.specs.declared.Lent.{Lent}
use Rattle.manual.specs.declared.Verdict.TheVariants.{None}
use Rattle.manual.specs.Words.{three_at}
use Rattle.manual.specs.Configuration.{Configuration, events, config_ok}
use Rattle.manual.specs.State.{State, lent, all_stopped, status_byte}
use Rattle.manual.specs.WellFormed.{well_formed}
use Rattle.manual.specs.Answers.{lent_room, lent_both, Outcome}
use Rattle.manual.specs.Counts.{carries_past}
use Rattle.manual.specs.Calls.{unknown_code, cleared, clear_log}
use Rattle.manual.specs.Diagnostics.{Reply, positive, negative, Served, served, SubFunction, sub_function}
use Rattle.manual.specs.Diagnostics.{matches, line, lines, is_near, counter_byte, suppresses, sub_function_reply, replied}
use Rattle.manual.specs.Diagnostics.{served_by, asks_clear, counts_after}
use Rattle.counts.specs.Near.{AreFive}
use Rattle.diagnostics.specs.declared.Asked.{Asked}
use Rattle.diagnostics.specs.declared.Asked.TheVariants.{All, Matching, Near}
use Rattle.diagnostics.specs.declared.Turn.{Turn}
use Rattle.diagnostics.specs.declared.Turn.TheVariants.{Write, Suppressed}
use Rattle.diagnostics.specs.declared.Service.{Service}
use Rattle.diagnostics.specs.declared.Service.TheVariants.{Replied}

-- ---- a reply reads nothing of the state but its records, its debounce numbers and its memory

-- what is promised of it holds in every state with these, whatever its board
abbrev pub InStatesWith : Lent → (State → Type 0) → Type 0
InStatesWith s P = (b : Board) → P (lent s.records.now s.debounce.now s.memory.now b)

-- which events it counts or lists, and their lines, are those in this state: they are read without memory and board
abbrev pub holding : List ℕ → List ℤ → State
holding records debounce = lent records debounce [] (record { running = all_stopped; overflow = false })

-- a reply of this length was sent, and the room and the state are these
abbrev pub sent_is : ℕ → List ℕ → State → Outcome
sent_is size room s = record { answer = 0; verdict = None; value = size; part = []; beside = lent_room room; state = s }

-- and the counts are these
abbrev pub sent_with : ℕ → List ℕ → List ℕ → State → Outcome
sent_with size room counts s =
    record { answer = 0; verdict = None; value = size; part = []; beside = lent_both room counts; state = s }

module _ (cfg : Configuration) where
  -- ---- the events that a reply lists or counts

  abbrev pub asks : Asked → State → ℕ → Bool
  asks All s e = true
  asks (Matching mask) s e = matches cfg mask s e
  asks Near s e = is_near cfg s e

  -- the byte that a line shows of an event
  abbrev pub shows : Asked → State → ℕ → ℕ
  shows All s e = status_byte s e
  shows (Matching mask) s e = status_byte s e
  shows Near s e = counter_byte cfg s e

  abbrev pub line_if_asked : Asked → State → ℕ → List ℕ
  line_if_asked asked s e = cond (asks asked s e) (line cfg (shows asked s) e) []

  -- the event's line with the byte that it shows, or no line
  abbrev pub line_with : ℕ → library.Option ℕ → List ℕ
  line_with e (library.Some byte) = line cfg (λ x. byte) e
  line_with e library.None = []

  abbrev pub lines_asked : Asked → State → List ℕ
  lines_asked asked s = lines cfg (asks asked s) (shows asked s)

  -- ---- what the functions ask of the configuration and the room

  -- it was accepted, and "The reply room must hold 3 bytes"
  pub record Accepted (room : List ℕ) : Type 0 where
    pub config : config_ok cfg ≡ true
    pub room_least : 3 ≤ length room

  -- it holds the bytes of one event from `at` on
  pub record EventFits (e at : ℕ) (bytes room : List ℕ) : Type 0 where
    pub config : config_ok cfg ≡ true
    pub event_inside : e < events cfg
    pub within : at + length bytes ≤ length room

  -- it holds these bytes from `at` on
  pub record BytesFit (at : ℕ) (bytes room : List ℕ) : Type 0 where
    pub config : config_ok cfg ≡ true
    pub within : at + length bytes ≤ length room

  -- ---- service 19

  -- what a sub-function leaves
  abbrev pub sub_function_outcome : SubFunction → List ℕ → List ℕ → State → Outcome
  sub_function_outcome f request room s =
      replied cfg 0x19 (lent_room room) (served (sub_function_reply cfg (some f) request (length room) s) s)

  -- a sub-function whose reply lists the events that are asked for, behind these bytes
  abbrev pub listing : List ℕ → ℕ → Asked → SubFunction
  listing head size asked = sub_function (get_or head 1 0) size (λ request s. positive (head ++ lines_asked asked s))

  -- what a function that lists asks for: that it was accepted, and a head of at most 3 bytes
  pub record MayList (head room : List ℕ) : Type 0 where
    pub accepted : Accepted room
    pub head_most : length head ≤ 3

  -- the tests that a sub-function's reply goes by, where these are the bytes of its positive reply
  pub record Tests (f : SubFunction) (request : List ℕ) (room : ℕ) (s : State) (bytes : List ℕ)
      (wrong suppressed long : Bool) : Type 0 where
    pub length_is : wrong ≡ not (eqb (length request) f.size)
    pub suppressed_is : suppressed ≡ suppresses cfg request
    pub bytes_are : f.reply request s ≡ positive bytes
    pub long_is : long ≡ ltb room (length bytes)

  -- ---- what the answers mean

  -- the reply of service 14, and the state once the clear is done
  abbrev pub clear_request_is : Result ℕ ℕ → State → Served
  clear_request_is (Ok code) s = served (positive (0x54 ∷ [])) (cleared cfg code s)
  clear_request_is (Err code) s = served (negative code) s

  -- what the request leaves, once the clear is done
  abbrev pub service_is : Service → List ℕ → State → Outcome
  service_is (Replied size) room s = sent_is size room s
  service_is (Service.Clear code) room s = sent_is 1 room (cleared cfg code s)

  -- ---- the clear that a request asks for

  -- "14: length must be 4 (else 13); the three bytes are a trouble code; unknown: code 31; else clear"
  abbrev pub clears14 : List ℕ → Bool
  clears14 request = eqb (length request) 4 && not (unknown_code cfg (three_at 1 request))

  -- the trouble code of it, where one is asked for
  abbrev pub code_where : Bool → List ℕ → Option ℕ
  code_where asked request = cond asked (some (three_at 1 request)) none

  -- the one that service 14 clears, and the one that is left to do
  abbrev pub code_of14 : Result ℕ ℕ → Option ℕ
  code_of14 (Ok code) = some code
  code_of14 (Err code) = none

  abbrev pub left_to_clear : Service → Option ℕ
  left_to_clear (Replied size) = none
  left_to_clear (Service.Clear code) = some code

  -- document 02, W7: a "clearing diagnostic request whose whole rise would carry any count past 4,294,967,295"
  abbrev pub clears_past : List ℕ → List ℕ → State → Bool
  clears_past request counts s = asks_clear cfg request && carries_past (clear_log cfg (three_at 1 request) s) counts

  -- what a request that nothing refuses may count on
  pub record MayAnswer (request room counts : List ℕ) (s : State) : Type 0 where
    pub accepted : Accepted room
    pub formed : well_formed cfg s ≡ true
    pub five : AreFive counts
    pub not_past : clears_past request counts s ≡ false

  -- and what it leaves
  abbrev pub answered : List ℕ → List ℕ → List ℕ → State → Outcome
  answered request room counts s =
      replied cfg (get_or request 0 0) (lent_both room (counts_after cfg request (lent_both room counts) s))
      (served_by cfg request (length room) s)

-- the reply in this turn, where these are the bytes of the positive one
abbrev pub turn_is : Turn → List ℕ → Reply
turn_is Write bytes = positive bytes
turn_is Suppressed bytes = positive []
turn_is (Turn.Negative code) bytes = negative code

-- by these tests this is the turn, and what is written fits
pub record TurnBy (wrong suppressed long : Bool) (turn : Turn) : Type 0 where
  pub replies : (cfg : Configuration) (f : SubFunction) (request : List ℕ) (room : ℕ) (s : State) (bytes : List ℕ)
      → Tests cfg f request room s bytes wrong suppressed long
      → turn_is turn bytes ≡ sub_function_reply cfg (some f) request room s
  pub fits : turn ≡ Write → long ≡ false
