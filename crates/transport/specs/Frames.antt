-- Document 02, W13: "ISO 15765-2 segmenting with 8-byte frames, normal addressing, unused bytes zero". Assumes nothing.
use Rattle.std.specs.Prelude.{Bool, ◌&&◌, List, [], ◌∷◌, ◌++◌, ℕ, ◌+◌, ◌-◌, ◌*◌, ◌/◌, ◌%◌, length, get_or, take, drop, replicate, leb}
use Rattle.transport.specs.declared.CanFrame.{CanFrame}
use Rattle.transport.specs.declared.Refused.{Refused}

-- "8-byte frames": the frame of eight bytes, and a frame's byte at a place
abbrev pub frame_of : List ℕ → CanFrame
frame_of l = record { bytes = l }

abbrev pub byte : CanFrame → ℕ → ℕ
byte f i = get_or f.bytes i 0

-- "unused bytes zero"
unfoldable pub padded : List ℕ → List ℕ
padded bytes = bytes ++ replicate (8 - length bytes) 0

abbrev pub frame : List ℕ → CanFrame
frame bytes = frame_of (padded bytes)

-- "Up to 7 bytes go in a single frame (`0N`)"
abbrev pub single : List ℕ → CanFrame
single m = frame (length m ∷ m)

-- "8 to 4,095 in a first frame (`1L LL` and 6 bytes)"
abbrev pub first : List ℕ → CanFrame
first m = frame ((0x10 + length m / 256) ∷ length m % 256 ∷ take 6 m)

-- "then consecutive frames `2N`, N from 1 counting modulo 16, 7 bytes each": the bytes of frame k stand behind the 6 of
-- the first frame and the 7 of each frame before it
abbrev pub place : ℕ → ℕ
place k = 7 * k - 1

abbrev pub consecutive : List ℕ → ℕ → CanFrame
consecutive m k = frame ((0x20 + k % 16) ∷ take 7 (drop (place k) m))

-- which of them is the last: what the 6 bytes of the first frame leave, 7 bytes each, rounded up
abbrev pub last_number : ℕ → ℕ
last_number size = size / 7

-- "outside 1 to 4,095 bytes"
abbrev pub longest : ℕ
longest = 4095

-- a message of this length has a consecutive frame of this number
unfoldable pub has : ℕ → ℕ → Bool
has size k = leb 8 size && leb size longest && leb 1 k && leb k (last_number size)

-- "Flow control `30`, block size, separation time"
abbrev pub control : ℕ → ℕ → CanFrame
control block separation = frame (0x30 ∷ block ∷ separation ∷ [])

-- "All these are new number 13"
abbrev pub thirteen : Refused
thirteen = record {}

-- "`31` waits"
abbrev pub pause : CanFrame
pause = frame (0x31 ∷ [])
