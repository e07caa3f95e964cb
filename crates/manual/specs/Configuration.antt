-- Document 01, "The parts the manager works on": the configuration. Assumes nothing.
use Rattle.std.specs.Prelude.{◌≡◌, ◌≢◌, Bool, cond, List, [], ◌∷◌, ℕ, suc, ◌+◌, ◌*◌, ◌-◌, ◌<◌, ℤ, pos, negsuc, get_or, length, leb, eqb}
use Rattle.std.proofs.Math.Option.{Option}
use Rattle.std.specs.Int.Signed.{lt_z}
use Rattle.history.specs.Words.{holds}
use Rattle.history.specs.StatusByte.{Limits}
use Rattle.manual.specs.Words.{all_below, lowest_below, between, eq_z, nat_of}

-- "Configuration: lent signed 32-bit numbers"
abbrev pub Configuration : Type 0
Configuration = List ℤ

abbrev pub number_at : Configuration → ℕ → ℤ
number_at cfg i = get_or cfg i (pos 0)

-- "three in front: n events (1 to 512), M memory places (1 to 64), F frame bytes (0 to 32)"
abbrev pub in_front : ℕ
in_front = 3

abbrev pub most_events : ℕ
most_events = 512

abbrev pub most_places : ℕ
most_places = 64

abbrev pub most_frame : ℕ
most_frame = 32

unfoldable pub events : Configuration → ℕ
events cfg = nat_of (number_at cfg 0)

unfoldable pub places : Configuration → ℕ
places cfg = nat_of (number_at cfg 1)

unfoldable pub frame_bytes : Configuration → ℕ
frame_bytes cfg = nat_of (number_at cfg 2)

-- document 02, W6: "1 + M(3 + 2F)": the bytes that a memory entry holds of its frames, behind its number and its count
abbrev pub entry_frames : Configuration → ℕ
entry_frames cfg = 2 * frame_bytes cfg

abbrev pub most_payload : ℕ
most_payload = 2 * most_frame

-- "Then 13 per event, event 0 first"; document 02, W5: "one more configuration number per event, 14th"
abbrev pub row_width : ℕ
row_width = 14

-- the length of the longest configuration
abbrev pub most_numbers : ℕ
most_numbers = in_front + row_width * most_events

-- number k of event e's row, counted from 1 as the table does
unfoldable pub column : ℕ → Configuration → ℕ → ℤ
column k cfg e = number_at cfg (in_front + row_width * e + (k - 1))

module _ (cfg : Configuration) (e : ℕ) where
  -- "1 trouble code", "2 priority", "3 cycle", "4 debounce kind"
  abbrev pub code_of : ℕ
  code_of = nat_of (column 1 cfg e)

  abbrev pub priority_of : ℕ
  priority_of = nat_of (column 2 cfg e)

  abbrev pub cycle_of : ℕ
  cycle_of = nat_of (column 3 cfg e)

  -- "0 internal, 1 counter, 2 time"
  abbrev pub kind_of : ℕ
  kind_of = nat_of (column 4 cfg e)

  abbrev pub is_internal : Bool
  is_internal = eqb kind_of 0

  abbrev pub is_counter : Bool
  is_counter = eqb kind_of 1

  abbrev pub is_time : Bool
  is_time = eqb kind_of 2

  -- "5, 6 P, Q", "7, 8 up, down"
  abbrev pub low_of : ℤ
  low_of = column 5 cfg e

  abbrev pub high_of : ℤ
  high_of = column 6 cfg e

  abbrev pub up_of : ℤ
  up_of = column 7 cfg e

  abbrev pub down_of : ℤ
  down_of = column 8 cfg e

  -- "9 jumps": "1 = jump up, 2 = jump down, 3 = both"
  abbrev pub jumps_of : ℕ
  jumps_of = nat_of (column 9 cfg e)

  -- "10, 11, 12 C confirm, H heal, A age", "13 indicator"
  abbrev pub limits_of : Limits
  limits_of = record {
    C = nat_of (column 10 cfg e);
    H = nat_of (column 11 cfg e);
    A = nat_of (column 12 cfg e);
    indicator = eqb (nat_of (column 13 cfg e)) 1;
  }

  -- "14th, for the set it needs (0 to 2,147,483,647)"
  abbrev pub needed_of : ℕ
  needed_of = nat_of (column 14 cfg e)

  -- the table's column "allowed", a line for each number of the row
  unfoldable pub row_ok : Bool
  row_ok =
      holds
      (between (pos 1) (pos 16777214) (column 1 cfg e)
      ∷ between (pos 1) (pos 255) (column 2 cfg e)
      ∷ between (pos 0) (pos 3) (column 3 cfg e)
      ∷ between (pos 0) (pos 2) (column 4 cfg e)
      ∷ cond is_internal (eq_z (column 5 cfg e) (pos 0)) (between (negsuc 29999) (negsuc 0) (column 5 cfg e))
      ∷ cond is_internal (eq_z (column 6 cfg e) (pos 0)) (between (pos 1) (pos 30000) (column 6 cfg e))
      ∷ cond is_counter (between (pos 1) (pos 30000) (column 7 cfg e)) (eq_z (column 7 cfg e) (pos 0))
      ∷ cond is_counter (between (pos 1) (pos 30000) (column 8 cfg e)) (eq_z (column 8 cfg e) (pos 0))
      ∷ cond is_counter (between (pos 0) (pos 3) (column 9 cfg e)) (eq_z (column 9 cfg e) (pos 0))
      ∷ between (pos 1) (pos 255) (column 10 cfg e)
      ∷ between (pos 1) (pos 255) (column 11 cfg e)
      ∷ between (pos 1) (pos 255) (column 12 cfg e)
      ∷ between (pos 0) (pos 1) (column 13 cfg e)
      ∷ between (pos 0) (pos 2147483647) (column 14 cfg e)
      ∷ [])

  -- "strictly rising from event to event"
  abbrev pub rises : Bool
  rises = lt_z (column 1 cfg e) (column 1 cfg (suc e))

-- "the length is exactly 3 + 13n", with W5 3 + 14n: a configuration of another length, also one below 3, breaks the
-- table
unfoldable pub config_ok : Configuration → Bool
config_ok cfg =
    holds
    (leb in_front (length cfg)
    ∷ between (pos 1) (pos most_events) (number_at cfg 0)
    ∷ between (pos 1) (pos most_places) (number_at cfg 1)
    ∷ between (pos 0) (pos most_frame) (number_at cfg 2)
    ∷ eqb (length cfg) (in_front + row_width * events cfg)
    ∷ all_below (events cfg) (row_ok cfg)
    ∷ all_below (events cfg - 1) (rises cfg)
    ∷ [])

-- ---- the event of a trouble code

abbrev pub has_trouble_code : Configuration → ℕ → ℕ → Bool
has_trouble_code cfg code e = eqb (code_of cfg e) code

-- the first event with this trouble code, where there is one
unfoldable pub first_with_code : Configuration → ℕ → Option ℕ
first_with_code cfg code = lowest_below (events cfg) (has_trouble_code cfg code)

-- event e has the code, and no event before it has
pub record FirstWithCode (cfg : Configuration) (code e : ℕ) : Type 0 where
  pub below : e < events cfg
  pub has_code : code_of cfg e ≡ code
  pub first : (k : ℕ) → k < e → code_of cfg k ≢ code
