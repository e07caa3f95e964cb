-- Document 01, "A state is well formed when …", a definition or a line for each clause. Assumes nothing.
use Rattle.std.specs.Prelude.{Bool, not, ◌&&◌, ◌||◌, cond, List, [], ◌∷◌, ℕ, ◌*◌, length, drop, ℤ, pos, eqb, leb, ltb}
use Rattle.history.specs.Words.{holds, all_of}
use Rattle.history.specs.StatusByte.{test_failed_since_last_clear, EventRecord}
use Rattle.history.specs.WellFormed.{well_formed_record}
use Rattle.manual.specs.declared.Board.{Board}
use Rattle.manual.specs.Words.{all_below, between, eq_z}
use Rattle.manual.specs.Configuration.{Configuration, events, places, entry_frames, cycle_of, is_internal, limits_of}
use Rattle.manual.specs.State.{State, runs, record_width, record_of, D}
use Rattle.manual.specs.Debouncing.{top, bottom}
use Rattle.manual.specs.Memory.{Entry, event_of, memory_length, entry_count, bytes_in_use, entries_of, no_twice}

module _ (cfg : Configuration) where
  -- "all lengths fit"
  abbrev pub records_fit : State → Bool
  records_fit s = eqb (length s.records) (record_width * events cfg)

  abbrev pub debounce_fits : State → Bool
  debounce_fits s = eqb (length s.debounce) (events cfg)

  -- "and for each event: bit 4 set means …; … g = 0 when bit 3 is clear": the nine clauses on the record
  abbrev pub record_ok : ℕ → EventRecord → Bool
  record_ok e r = well_formed_record (limits_of cfg e) r

  -- "D is 0 if the event's cycle is stopped or its kind is 0, else in P..Q (kind 1) or P−1..Q+1 (kind 2)"
  unfoldable pub d_fits : Bool → ℕ → ℤ → Bool
  d_fits running e d = cond (not running || is_internal cfg e) (eq_z d (pos 0)) (between (bottom cfg e) (top cfg e) d)

  abbrev pub d_ok : Board → ℕ → ℤ → Bool
  d_ok b e d = d_fits (runs b (cycle_of cfg e)) e d

  abbrev pub event_ok : State → ℕ → Bool
  event_ok s e = record_ok e (record_of s e) && d_ok s.board e (D s e)

  -- "Memory has at most M entries"
  abbrev pub at_most_m : State → Bool
  at_most_m s = leb (entry_count s.memory) (places cfg)

  -- "event numbers below n", "occurrence ≥ 1", "each entry's event has bit 5 set"
  abbrev pub event_below : Entry → Bool
  event_below x = ltb (event_of x) (events cfg)

  abbrev pub has_occurred : Entry → Bool
  has_occurred x = leb 1 x.count

  abbrev pub has_failed : State → Entry → Bool
  has_failed s x = (record_of s (event_of x)).status test_failed_since_last_clear

  abbrev pub entry_ok : State → Entry → Bool
  entry_ok s x = holds (event_below x ∷ has_occurred x ∷ has_failed s x ∷ [])

  -- ---- a state whose entries have payloads of W bytes

  module _ (W : ℕ) where
    abbrev pub memory_fits_with : State → Bool
    memory_fits_with s = eqb (length s.memory) (memory_length (places cfg) W)

    unfoldable pub lengths_fit_with : State → Bool
    lengths_fit_with s = holds (records_fit s ∷ debounce_fits s ∷ memory_fits_with s ∷ [])

    abbrev pub entries_with : State → List Entry
    entries_with s = entries_of W s.memory

    -- "and the bytes after the last entry are 0"
    abbrev pub zero_tail_with : State → Bool
    zero_tail_with s = all_of (λ b. eqb b 0) (drop (bytes_in_use W (entry_count s.memory)) s.memory)

    -- "Memory has at most M entries, event numbers below n and no two equal, occurrence ≥ 1, each entry's event has bit
    -- 5 set, and the bytes after the last entry are 0."
    unfoldable pub memory_ok_with : State → Bool
    memory_ok_with s =
        holds
        (at_most_m s ∷ all_of (entry_ok s) (entries_with s) ∷ no_twice (entries_with s) ∷ zero_tail_with s ∷ [])

    unfoldable pub well_formed_with : State → Bool
    well_formed_with s = holds (lengths_fit_with s ∷ all_below (events cfg) (event_ok s) ∷ memory_ok_with s ∷ [])

  -- ---- a state as the calls take it: document 02, W6, "Memory is 1 + M(3 + 2F) bytes."

  abbrev pub memory_fits : State → Bool
  memory_fits s = memory_fits_with (entry_frames cfg) s

  abbrev pub lengths_fit : State → Bool
  lengths_fit s = lengths_fit_with (entry_frames cfg) s

  abbrev pub entries : State → List Entry
  entries s = entries_with (entry_frames cfg) s

  abbrev pub zero_tail : State → Bool
  zero_tail s = zero_tail_with (entry_frames cfg) s

  abbrev pub memory_ok : State → Bool
  memory_ok s = memory_ok_with (entry_frames cfg) s

  abbrev pub well_formed : State → Bool
  well_formed s = well_formed_with (entry_frames cfg) s
