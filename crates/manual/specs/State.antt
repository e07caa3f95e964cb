-- Document 01, "The parts the manager works on": the lent blocks and the board. Assumes nothing.
use Rattle.std.specs.Prelude.{Bool, false, List, [], ◌∷◌, ℕ, ◌+◌, ◌*◌, get_or, set, ℤ, pos}
use Rattle.history.specs.StatusByte.{status_of, byte_of, EventRecord}
use Rattle.manual.specs.declared.Board.{Board}

-- the lent blocks, and the board that a call is given
pub record State : Type 0 where
  pub records : List ℕ
  pub debounce : List ℤ
  pub memory : List ℕ
  pub board : Board

abbrev pub lent : List ℕ → List ℤ → List ℕ → Board → State
lent records debounce memory board = record { records = records; debounce = debounce; memory = memory; board = board }

-- "Board: which of the four cycles run, and an overflow flag."
abbrev pub runs : Board → ℕ → Bool
runs b c = get_or b.running c false

abbrev pub all_stopped : List Bool
all_stopped = false ∷ false ∷ false ∷ false ∷ []

-- "Records: 4n lent bytes; per event status, K (failed cycles), h (healing count), g (ageing count)."
abbrev pub record_width : ℕ
record_width = 4

pub record Stored : Type 0 where
  pub status : ℕ
  pub K : ℕ
  pub h : ℕ
  pub g : ℕ

-- the record that these four bytes stand for, and the bytes of a record
abbrev pub opened : Stored → EventRecord
opened r = record { status = status_of r.status; K = r.K; h = r.h; g = r.g }

abbrev pub stored : EventRecord → Stored
stored r = record { status = byte_of r.status; K = r.K; h = r.h; g = r.g }

unfoldable pub stored_at : ℕ → List ℕ → Stored
stored_at e m = record {
  status = get_or m (record_width * e) 0;
  K = get_or m (record_width * e + 1) 0;
  h = get_or m (record_width * e + 2) 0;
  g = get_or m (record_width * e + 3) 0;
}

unfoldable pub with_stored : ℕ → Stored → List ℕ → List ℕ
with_stored e r m =
    set (set (set (set m (record_width * e) r.status) (record_width * e + 1) r.K) (record_width * e + 2) r.h)
    (record_width * e + 3) r.g

-- event e's status byte, and its record
abbrev pub status_byte : State → ℕ → ℕ
status_byte s e = (stored_at e s.records).status

abbrev pub record_of : State → ℕ → EventRecord
record_of s e = opened (stored_at e s.records)

-- "Debounce numbers: n lent signed 32-bit numbers, one D per event."
abbrev pub D : State → ℕ → ℤ
D s e = get_or s.debounce e (pos 0)

-- ---- a state with one part changed

abbrev pub with_record : ℕ → EventRecord → State → State
with_record e r s =
    record {
      records = with_stored e (stored r) s.records;
      debounce = s.debounce;
      memory = s.memory;
      board = s.board;
    }

abbrev pub with_d : ℕ → ℤ → State → State
with_d e d s = record { records = s.records; debounce = set s.debounce e d; memory = s.memory; board = s.board }

abbrev pub with_memory : List ℕ → State → State
with_memory m s = record { records = s.records; debounce = s.debounce; memory = m; board = s.board }

abbrev pub with_board : Board → State → State
with_board b s = record { records = s.records; debounce = s.debounce; memory = s.memory; board = b }

abbrev pub with_overflow : Bool → State → State
with_overflow b s = with_board (record { running = s.board.running; overflow = b }) s

abbrev pub with_cycle : ℕ → Bool → State → State
with_cycle c b s = with_board (record { running = set s.board.running c b; overflow = s.board.overflow }) s
