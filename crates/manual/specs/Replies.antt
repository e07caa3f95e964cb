-- Document 01, "Diagnostic requests", with document 02's W1 and W4, a case for each sentence: what an accepted request
-- is sent, and what it leaves.
-- The definitions of Diagnostics.antt compute; this is the same as a relation, to be laid beside the document. Assumes
-- nothing.
use Rattle.std.specs.Prelude.{◌≡◌, ◌≢◌, ◌⊎◌, Bool, true, false, not, ℕ, zero, suc, ◌+◌, ◌*◌, ◌/◌, ◌%◌, ◌≤◌, ◌<◌, length, get_or, take, drop, eqb, pos}
use mathlib.Core.List.{List, [], ◌∷◌, ◌++◌, flat_map}
use Rattle.std.proofs.Math.Option.{none, some}
use Rattle.std.specs.Int.Bits.{bit_and}
use Rattle.manual.specs.declared.Verdict.TheVariants.{None}
use Rattle.manual.specs.Words.{All, those, two, three, three_at, between, twos_complement}
use Rattle.manual.specs.Configuration.{Configuration, events, frame_bytes, code_of, config_ok, FirstWithCode}
use Rattle.manual.specs.State.{State, stored_at, status_byte}
use Rattle.manual.specs.Memory.{Entry, first_frame, latest_frame, entry_for}
use Rattle.manual.specs.WellFormed.{entries, well_formed}
use Rattle.manual.specs.Answers.{Beside, with_room, Outcome}
use Rattle.manual.specs.Counts.{carries_past, with_rise, counts_fit}
use Rattle.manual.specs.Calls.{unknown_code, cleared, clear_log}
use Rattle.manual.specs.Counter.{counter_in}

-- ---- the sentences

-- the numbers below n, "rising"
unfoldable pub rising : ℕ → List ℕ
rising zero = []
rising (suc n) = rising n ++ (n ∷ [])

-- "An event matches if status and mask share a set bit."
abbrev pub shares_bit : ℕ → ℕ → Bool
shares_bit status mask = not (eqb (bit_and status mask) 0)

-- a request, and the state that it finds
module _ (cfg : Configuration) (request : List ℕ) (s : State) where
  abbrev pub service : ℕ
  service = get_or request 0 0

  abbrev pub second_byte : ℕ
  second_byte = get_or request 1 0

  -- "The second byte less its top bit is the sub-function"
  abbrev pub number : ℕ
  number = second_byte % 128

  abbrev pub mask : ℕ
  mask = get_or request 2 0

  -- service 14: "the three bytes are a trouble code"
  abbrev pub trouble_code : ℕ
  trouble_code = three_at 1 request

  abbrev pub matching : List ℕ
  matching = those (λ e. shares_bit (status_byte s e) mask) (rising (events cfg))

  -- "trouble code (3 bytes high first) and status"
  abbrev pub line_of : ℕ → List ℕ
  line_of e = three (code_of cfg e) ++ (status_byte s e ∷ [])

  -- document 02, W1: "each event whose counter is 1 to 126", and "trouble code and counter byte (two's complement)"
  abbrev pub nearing : List ℕ
  nearing = those (λ e. between (pos 1) (pos 126) (counter_in cfg s e)) (rising (events cfg))

  abbrev pub counter_line : ℕ → List ℕ
  counter_line e = three (code_of cfg e) ++ (twos_complement (counter_in cfg s e) ∷ [])

  -- document 02, W4: "`19 04` (code, record) and `19 06` (code, record)"
  abbrev pub asked_code : ℕ
  asked_code = three_at 2 request

  abbrev pub asked_record : ℕ
  asked_record = get_or request 5 0

  -- "The only record numbers are 01 and FF."
  abbrev pub KnownRecord : Type 0
  KnownRecord = (asked_record ≡ 0x01) ⊎ (asked_record ≡ 0xFF)

  -- the event that the request asks for
  pub record Shown (e : ℕ) : Type 0 where
    pub known_record : KnownRecord
    pub of_code : FirstWithCode cfg asked_code e

  -- "if the event has an entry", and "Without an entry"
  abbrev pub HasEntry : ℕ → Entry → Type 0
  HasEntry e x = entry_for e (entries cfg s) ≡ some x

  abbrev pub HasNone : ℕ → Type 0
  HasNone e = entry_for e (entries cfg s) ≡ none

  -- "occurrence count, K, h, g"
  abbrev pub details_of : ℕ → Entry → List ℕ
  details_of e x = x.count ∷ (stored_at e s.records).K ∷ (stored_at e s.records).h ∷ (stored_at e s.records).g ∷ []

  -- "Length must be 3, 3, 2", "of length 2", "each of length 6": the length that a sub-function's request must have
  pub data MustHave : ℕ → Type 0 where
    length_of_01 : number ≡ 0x01 → MustHave 3
    length_of_02 : number ≡ 0x02 → MustHave 3
    length_of_0a : number ≡ 0x0A → MustHave 2
    length_of_14 : number ≡ 0x14 → MustHave 2
    length_of_04 : number ≡ 0x04 → MustHave 6
    length_of_06 : number ≡ 0x06 → MustHave 6

  -- an entry's two frames of F bytes, "first, then latest"
  abbrev pub first_then_latest : Entry → List ℕ
  first_then_latest x = first_frame (frame_bytes cfg) x.payload ++ latest_frame (frame_bytes cfg) x.payload

  -- a sub-function's positive reply
  pub data Asks : List ℕ → Type 0 where
    -- "01 mask: `59 01 FF 01` and the number of matching events, 2 bytes high first."
    numbered_by_mask : number ≡ 0x01 → Asks (0x59 ∷ 0x01 ∷ 0xFF ∷ 0x01 ∷ two (length matching))
    -- "02 mask: `59 02 FF`, then per matching event trouble code (3 bytes high first) and status, rising."
    listed_by_mask : number ≡ 0x02 → Asks (0x59 ∷ 0x02 ∷ 0xFF ∷ flat_map line_of matching)
    -- "0A: `59 0A FF`, then all events likewise."
    list_all : number ≡ 0x0A → Asks (0x59 ∷ 0x0A ∷ 0xFF ∷ flat_map line_of (rising (events cfg)))
    -- document 02, W1: "request `19 14` of length 2: `59 14`, then trouble code and counter byte (two's complement) for
    -- each event whose counter is 1 to 126, rising"
    listed_near : number ≡ 0x14 → Asks (0x59 ∷ 0x14 ∷ flat_map counter_line nearing)
    -- document 02, W4: "`59 04`, code, status, then if the event has an entry `01` and the F frame bytes"; W6: "`19 04`
    -- sends first, then latest."
    frame_of_entry : number ≡ 0x04 → (e : ℕ) → Shown e → (x : Entry) → HasEntry e x
        → Asks (0x59 ∷ 0x04 ∷ (line_of e ++ (0x01 ∷ first_then_latest x)))
    -- "`59 06`, code, status, then if it has an entry `01`, occurrence count, K, h, g"
    details_of_entry : number ≡ 0x06 → (e : ℕ) → Shown e → (x : Entry) → HasEntry e x
        → Asks (0x59 ∷ 0x06 ∷ (line_of e ++ (0x01 ∷ details_of e x)))
    -- "Without an entry the reply ends after the status."
    frame_without_entry : number ≡ 0x04 → (e : ℕ) → Shown e → HasNone e → Asks (0x59 ∷ 0x04 ∷ line_of e)
    details_without_entry : number ≡ 0x06 → (e : ℕ) → Shown e → HasNone e → Asks (0x59 ∷ 0x06 ∷ line_of e)

  -- a request of service 19 that names a sub-function, which must have this length
  pub record Names (size : ℕ) : Type 0 where
    pub service_19 : service ≡ 0x19
    pub more : length request ≢ 1
    pub must_have : MustHave size

  -- and has that length
  abbrev pub Sized : Type 0
  Sized = Names (length request)

  -- this is its positive reply
  pub record Due (bytes : List ℕ) : Type 0 where
    pub sized : Sized
    pub asks : Asks bytes

  -- "unknown code or record", in a request for the event of a code: no event has the code, or the record is neither 01
  -- nor FF
  pub data AsksForUnknown : Type 0 where
    code_unknown : ((e : ℕ) → e < events cfg → code_of cfg e ≢ asked_code) → AsksForUnknown
    unknown_record : asked_record ≢ 0x01 → asked_record ≢ 0xFF → AsksForUnknown

  -- "With the top bit set a positive reply"
  abbrev pub Suppressed : Type 0
  Suppressed = (bytes : List ℕ) × Due bytes × (128 ≤ second_byte)

  -- "14: length must be 4 (else 13); …; unknown: code 31; else clear"
  abbrev pub Clearing : Type 0
  Clearing = (service ≡ 0x14) × (length request ≡ 4) × (unknown_code cfg trouble_code ≡ false)

  -- the outcome of a request that is sent these bytes, with this lent beside the state, and leaves this state: "Bytes
  -- past the reply stay.", "the answer is 0"
  abbrev pub sends : Beside → List ℕ → State → Outcome
  sends b bytes after = record {
    answer = 0;
    verdict = None;
    value = length bytes;
    part = [];
    beside = with_room (bytes ++ drop (length bytes) b.room) b;
    state = after;
  }

  -- what is lent beside the state: the room for its reply, and the counts
  module _ (b : Beside) where
    -- "Every call begins 2, 3.", "The reply room must hold 3 bytes (else 7).", "1 | empty diagnostic request"; document
    -- 02, W7: "A slice of another length is 3.", and 12 of a "clearing diagnostic request whose whole rise would carry
    -- any count past 4,294,967,295"
    pub record Accepted : Type 0 where
      pub configuration : config_ok cfg ≡ true
      pub five_counts : counts_fit b.counts ≡ true
      pub formed : well_formed cfg s ≡ true
      pub room_least : 3 ≤ length b.room
      pub some_bytes : length request ≢ 0
      pub not_past : Clearing → carries_past (clear_log cfg trouble_code s) b.counts ≡ false

    -- the negative codes
    pub data Negative : ℕ → Type 0 where
      -- "First byte other than 19 or 14: code 11."
      other_service : service ≢ 0x19 → service ≢ 0x14 → Negative 0x11
      -- "19: length 1: code 13."
      alone : service ≡ 0x19 → length request ≡ 1 → Negative 0x13
      -- "not 01, 02, 0A: code 12.", and not 14, 04, 06
      no_sub_function : service ≡ 0x19 → length request ≢ 1 → number ≢ 0x01 → number ≢ 0x02 → number ≢ 0x0A
          → number ≢ 0x14 → number ≢ 0x04 → number ≢ 0x06 → Negative 0x12
      -- "Length must be 3, 3, 2: else 13.", and 2 for 14, 6 for 04 and 06
      other_length : (size : ℕ) → Names size → length request ≢ size → Negative 0x13
      -- document 02, W4: "Check order after length: unknown code or record 31", whether the top bit is set or not
      unknown_in_04 : Sized → number ≡ 0x04 → AsksForUnknown → Negative 0x31
      unknown_in_06 : Sized → number ≡ 0x06 → AsksForUnknown → Negative 0x31
      -- "Otherwise one longer than the room: code 14."
      too_long : (bytes : List ℕ) → Due bytes → second_byte < 128 → length b.room < length bytes → Negative 0x14
      -- "14: length must be 4 (else 13)"
      not_four : service ≡ 0x14 → length request ≢ 4 → Negative 0x13
      -- "unknown: code 31"
      unknown : service ≡ 0x14 → length request ≡ 4 → unknown_code cfg trouble_code ≡ true → Negative 0x31

    -- "Negative reply: 7F, request's first byte, code; state stays"
    abbrev pub refused_with : ℕ → Outcome
    refused_with code = sends b (0x7F ∷ service ∷ code ∷ []) s

    pub data Replies : Outcome → Type 0 where
      negative : (code : ℕ) → Negative code → Replies (refused_with code)
      -- "With the top bit set a positive reply has length 0 and the room stays untouched."
      suppressed : Suppressed → Replies (sends b [] s)
      -- "01 mask: …", "02 mask: …", "0A: …", "`59 14`, then …", "`59 04`, code, status, …", "`59 06`, code, status, …"
      positive : (bytes : List ℕ) → Due bytes → second_byte < 128 → length bytes ≤ length b.room
          → Replies (sends b bytes s)
      -- "else clear and `54`"; the counts rise as by the clear
      clears : service ≡ 0x14 → length request ≡ 4 → unknown_code cfg trouble_code ≡ false
          → Replies (sends (with_rise (clear_log cfg trouble_code s) b) (0x54 ∷ []) (cleared cfg trouble_code s))

-- ---- words to read replies with, for the theorems that lay one beside another

-- bit i of a number, bit 0 the lowest
unfoldable pub bit_at : ℕ → ℕ → ℕ
bit_at zero k = k % 2
bit_at (suc i) k = bit_at i (k / 2)

-- a bit that is set in both
abbrev pub SharedBit : ℕ → ℕ → Type 0
SharedBit a b = (i : ℕ) × (bit_at i a ≡ 1) × (bit_at i b ≡ 1)

-- the requests of service 19, without the top bit
abbrev pub number_by : ℕ → List ℕ
number_by mask = 0x19 ∷ 0x01 ∷ mask ∷ []

abbrev pub list_by : ℕ → List ℕ
list_by mask = 0x19 ∷ 0x02 ∷ mask ∷ []

abbrev pub list_events : List ℕ
list_events = 0x19 ∷ 0x0A ∷ []

-- the bytes of a reply: as many as the call answers
abbrev pub reply_in : Outcome → List ℕ
reply_in o = take o.value o.beside.room

-- two calls give the same reply, and leave the same state
pub record SameReply (o o' : Outcome) : Type 0 where
  pub value : o'.value ≡ o.value
  pub bytes : reply_in o' ≡ reply_in o
  pub state : o'.state ≡ o.state

-- a list cut into parts of four
unfoldable pub fours : List ℕ → List (List ℕ)
fours [] = []
fours (a ∷ []) = []
fours (a ∷ b ∷ []) = []
fours (a ∷ b ∷ c ∷ []) = []
fours (a ∷ b ∷ c ∷ d ∷ l) = (a ∷ b ∷ c ∷ d ∷ []) ∷ fours l

-- `59 02 FF` or `59 0A FF`, then the lines
abbrev pub lines_in : Outcome → List (List ℕ)
lines_in o = fours (drop 3 (reply_in o))

-- "trouble code (3 bytes high first) and status"
abbrev pub code_in : List ℕ → ℕ
code_in line = three_at 0 line

abbrev pub status_in : List ℕ → ℕ
status_in line = get_or line 3 0

-- "`59 01 FF 01` and the number of matching events, 2 bytes high first"
abbrev pub number_in : Outcome → ℕ
number_in o = get_or (reply_in o) 4 0 * 256 + get_or (reply_in o) 5 0

-- a line tells this event: "trouble code (3 bytes high first) and status"
pub record Tells (cfg : Configuration) (s : State) (e : ℕ) (line : List ℕ) : Type 0 where
  pub four : length line ≡ 4
  pub bytes : All (λ b. b < 256) (take 3 line)
  pub code : code_in line ≡ code_of cfg e
  pub status : status_in line ≡ status_byte s e
