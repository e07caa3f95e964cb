-- Document 01, "Diagnostic requests", with the sub-functions of document 02, W1 and W4. Assumes nothing.
use Rattle.std.specs.Prelude.{Bool, true, not, ◌&&◌, ◌||◌, cond, List, [], ◌∷◌, ◌++◌, ℕ, ◌%◌, length, get_or, drop, eqb, leb, ltb, pos}
use Rattle.std.proofs.Math.Option.{Option, none, some}
use Rattle.std.specs.Int.Bits.{bit_and}
use Rattle.manual.specs.declared.Verdict.TheVariants.{None}
use Rattle.manual.specs.Words.{count_below, join_below, first_of, two, three, three_at, between, twos_complement}
use Rattle.manual.specs.Configuration.{Configuration, events, code_of, first_with_code}
use Rattle.manual.specs.State.{State, stored_at, status_byte}
use Rattle.manual.specs.Memory.{Entry, entry_for}
use Rattle.manual.specs.WellFormed.{entries}
use Rattle.manual.specs.Answers.{Beside, with_room, with_counts, Outcome, Rule, ◌if◌, judged}
use Rattle.manual.specs.Counts.{rise_of, raised, carries_past, counts_fit}
use Rattle.manual.specs.Calls.{begins, unknown_code, cleared, clear_log}
use Rattle.manual.specs.Counter.{counter_in}

-- three things are called 14: the service that clears, document 02's sub-function of service 19, the negative code
abbrev pub service_fourteen : ℕ
service_fourteen = 0x14

abbrev pub sub_function_fourteen : ℕ
sub_function_fourteen = 0x14

abbrev pub code_fourteen : ℕ
code_fourteen = 0x14

-- a reply, and its bytes: "Negative reply: 7F, request's first byte, code"
pub data Reply : Type 0 where
  positive : List ℕ → Reply
  negative : ℕ → Reply

abbrev pub reply_bytes : ℕ → Reply → List ℕ
reply_bytes service (positive bytes) = bytes
reply_bytes service (negative code) = 0x7F ∷ service ∷ code ∷ []

-- what a service replies, and the state after it
pub record Served : Type 0 where
  pub reply : Reply
  pub state : State

abbrev pub served : Reply → State → Served
served reply s = record { reply = reply; state = s }

-- a sub-function of service 19: its number, the length its request must have, and its reply
pub record SubFunction : Type 0 where
  pub number : ℕ
  pub size : ℕ
  pub reply : List ℕ → State → Reply

abbrev pub sub_function : ℕ → ℕ → (List ℕ → State → Reply) → SubFunction
sub_function number size reply = record { number = number; size = size; reply = reply }

-- "With the top bit set a positive reply has length 0 and the room stays untouched. Otherwise one longer than the room:
-- code 14."; "unknown code or record 31, then 14": a negative reply is neither suppressed nor too long
unfoldable pub fitted : Bool → ℕ → Reply → Reply
fitted suppressed room (positive bytes) =
    cond suppressed (positive []) (cond (ltb room (length bytes)) (negative code_fourteen) (positive bytes))
fitted suppressed room (negative code) = negative code

module _ (cfg : Configuration) where
  -- "An event matches if status and mask share a set bit."
  abbrev pub matches : ℕ → State → ℕ → Bool
  matches mask s e = not (eqb (bit_and (status_byte s e) mask) 0)

  -- "trouble code (3 bytes high first) and status": the byte that a line shows of an event stands behind its code
  abbrev pub line : (ℕ → ℕ) → ℕ → List ℕ
  line shown e = three (code_of cfg e) ++ (shown e ∷ [])

  -- the lines of the events that pass, "rising"
  unfoldable pub lines : (ℕ → Bool) → (ℕ → ℕ) → List ℕ
  lines p shown = join_below (events cfg) (λ e. cond (p e) (line shown e) [])

  abbrev pub mask_of : List ℕ → ℕ
  mask_of request = get_or request 2 0

  -- "01 mask: `59 01 FF 01` and the number of matching events, 2 bytes high first."
  unfoldable pub number_by_mask : List ℕ → State → Reply
  number_by_mask request s =
      positive (0x59 ∷ 0x01 ∷ 0xFF ∷ 0x01 ∷ two (count_below (events cfg) (matches (mask_of request) s)))

  -- "02 mask: `59 02 FF`, then per matching event trouble code (3 bytes high first) and status, rising."
  unfoldable pub list_by_mask : List ℕ → State → Reply
  list_by_mask request s = positive (0x59 ∷ 0x02 ∷ 0xFF ∷ lines (matches (mask_of request) s) (status_byte s))

  -- "0A: `59 0A FF`, then all events likewise."
  unfoldable pub list_events : List ℕ → State → Reply
  list_events request s = positive (0x59 ∷ 0x0A ∷ 0xFF ∷ lines (λ e. true) (status_byte s))

  -- "each event whose counter is 1 to 126"
  unfoldable pub is_near : State → ℕ → Bool
  is_near s e = between (pos 1) (pos 126) (counter_in cfg s e)

  -- "counter byte (two's complement)"
  unfoldable pub counter_byte : State → ℕ → ℕ
  counter_byte s e = twos_complement (counter_in cfg s e)

  -- "request `19 14` of length 2: `59 14`, then trouble code and counter byte (two's complement) for each event whose
  -- counter is 1 to 126, rising"
  unfoldable pub list_near : List ℕ → State → Reply
  list_near request s = positive (0x59 ∷ sub_function_fourteen ∷ lines (is_near s) (counter_byte s))

  -- ---- `19 04` and `19 06`: what is known of the event of one trouble code

  -- "`19 04` (code, record) and `19 06` (code, record)"
  abbrev pub code_asked : List ℕ → ℕ
  code_asked request = three_at 2 request

  abbrev pub record_asked : List ℕ → ℕ
  record_asked request = get_or request 5 0

  -- "The only record numbers are 01 and FF."
  abbrev pub is_record : ℕ → Bool
  is_record number = eqb number 0x01 || eqb number 0xFF

  -- the event of a trouble code whose status and entry are shown. "FFFFFFh is an unknown code here.": no event has it
  unfoldable pub shown_event : ℕ → State → Option ℕ
  shown_event code s = first_with_code cfg code

  -- the event that the request asks for; none where its code or its record is unknown
  unfoldable pub event_asked : List ℕ → State → Option ℕ
  event_asked request s = cond (is_record (record_asked request)) (shown_event (code_asked request) s) none

  -- of an event's entry, W6: "`19 04` sends first, then latest", which is how its payload stores them
  abbrev pub frame_told : State → ℕ → Entry → List ℕ
  frame_told s e x = x.payload

  -- "occurrence count, K, h, g"
  abbrev pub details_told : State → ℕ → Entry → List ℕ
  details_told s e x =
      x.count ∷ (stored_at e s.records).K ∷ (stored_at e s.records).h ∷ (stored_at e s.records).g ∷ []

  -- "then if the event has an entry `01` and" what is told of it. "Without an entry the reply ends after the status."
  unfoldable pub behind_status : (Entry → List ℕ) → Option Entry → List ℕ
  behind_status told (some x) = 0x01 ∷ told x
  behind_status told none = []

  -- "`59 04`, code, status, then …", "`59 06`, code, status, then …"
  unfoldable pub shown_bytes : ℕ → (State → ℕ → Entry → List ℕ) → ℕ → State → List ℕ
  shown_bytes number told e s =
      0x59 ∷ number ∷ (line (status_byte s) e ++ behind_status (told s e) (entry_for e (entries cfg s)))

  -- "unknown code or record 31"
  unfoldable pub showing : ℕ → (State → ℕ → Entry → List ℕ) → Option ℕ → State → Reply
  showing number told (some e) s = positive (shown_bytes number told e s)
  showing number told none s = negative 0x31

  abbrev pub show_frame : List ℕ → State → Reply
  show_frame request s = showing 0x04 frame_told (event_asked request s) s

  abbrev pub show_details : List ℕ → State → Reply
  show_details request s = showing 0x06 details_told (event_asked request s) s

  -- "not 01, 02, 0A: code 12. Length must be 3, 3, 2"; "Document 01's list of sub-functions grows by this one"; "Add
  -- `19 04` (code, record) and `19 06` (code, record), each of length 6."
  abbrev pub sub_functions : List SubFunction
  sub_functions =
      sub_function 0x01 3 number_by_mask ∷ sub_function 0x02 3 list_by_mask ∷ sub_function 0x0A 2 list_events
      ∷ sub_function sub_function_fourteen 2 list_near ∷ sub_function 0x04 6 show_frame ∷ sub_function 0x06 6 show_details ∷ []

  -- "The second byte less its top bit is the sub-function"
  abbrev pub sub_function_of : List ℕ → Option SubFunction
  sub_function_of request = first_of (λ f. eqb f.number (get_or request 1 0 % 128)) sub_functions

  abbrev pub suppresses : List ℕ → Bool
  suppresses request = leb 128 (get_or request 1 0)

  unfoldable pub sub_function_reply : Option SubFunction → List ℕ → ℕ → State → Reply
  sub_function_reply none request room s = negative 0x12
  sub_function_reply (some f) request room s =
      cond (not (eqb (length request) f.size)) (negative 0x13)
      (fitted (suppresses request) room (f.reply request s))

  -- "19: length 1: code 13. … not 01, 02, 0A: code 12. Length must be 3, 3, 2: else 13.", and 14, of length 2,
  -- 04 and 06, of length 6: "Check order after length"
  unfoldable pub service19 : List ℕ → ℕ → State → Reply
  service19 request room s =
      cond (eqb (length request) 1) (negative 0x13) (sub_function_reply (sub_function_of request) request room s)

  -- "14: length must be 4 (else 13); the three bytes are a trouble code; unknown: code 31; else clear and `54`."
  unfoldable pub service14 : List ℕ → State → Served
  service14 request s =
      cond (not (eqb (length request) 4)) (served (negative 0x13) s)
      (cond (unknown_code cfg (three_at 1 request)) (served (negative 0x31) s)
      (served (positive (0x54 ∷ [])) (cleared cfg (three_at 1 request) s)))

  -- "First byte other than 19 or 14: code 11."
  unfoldable pub served_by : List ℕ → ℕ → State → Served
  served_by request room s =
      cond (eqb (get_or request 0 0) 0x19) (served (service19 request room s) s)
      (cond (eqb (get_or request 0 0) service_fourteen) (service14 request s)
      (served (negative 0x11) s))

  -- "Bytes past the reply stay." "the answer is 0"
  unfoldable pub sent : List ℕ → Beside → State → Outcome
  sent bytes b s = record {
    answer = 0;
    verdict = None;
    value = length bytes;
    part = [];
    beside = with_room (bytes ++ drop (length bytes) b.room) b;
    state = s;
  }

  abbrev pub replied : ℕ → Beside → Served → Outcome
  replied service b r = sent (reply_bytes service r.reply) b r.state

  -- service 14 with a trouble code that some event has, or with the one for all
  abbrev pub asks_clear : List ℕ → Bool
  asks_clear request =
      eqb (get_or request 0 0) 0x14 && eqb (length request) 4 && not (unknown_code cfg (three_at 1 request))

  -- document 02, W7: the counts that a "clearing diagnostic request" leaves, which are those of the clear; any other
  -- leaves them
  unfoldable pub counts_after : List ℕ → Beside → State → List ℕ
  counts_after request b s =
      cond (asks_clear request) (raised (rise_of (clear_log cfg (three_at 1 request) s)) b.counts) b.counts

  -- "diagnostic request 7, 1": "The reply room must hold 3 bytes (else 7).", "1 | empty diagnostic request"; of a
  -- "clearing diagnostic request" W7's 12
  unfoldable pub request_rules : List ℕ → Beside → State → List Rule
  request_rules request b s =
      begins cfg s (counts_fit b.counts)
      ((7 if ltb (length b.room) 3)
      ∷ (1 if eqb (length request) 0)
      ∷ (12 if (asks_clear request && carries_past (clear_log cfg (three_at 1 request) s) b.counts))
      ∷ [])

  unfoldable pub request_reply : List ℕ → Beside → State → Outcome
  request_reply request b s =
      judged (request_rules request b s) b s
      (replied (get_or request 0 0) (with_counts (counts_after request b s) b) (served_by request (length b.room) s))
