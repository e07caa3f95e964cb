-- Document 01, "Replay program", its output: "Each call prints answer and all status bytes, decimal, single spaces,
-- newline." Assumes nothing.
use Rattle.std.specs.Prelude.{cond, ℕ, ◌+◌, ◌*◌, ◌/◌, ◌%◌, ◌≤◌, ltb, length}
use mathlib.Core.List.{List, [], ◌∷◌, ◌++◌, flat_map}
use Rattle.manual.specs.Words.{join_below}
use Rattle.manual.specs.State.{record_width, stored_at}
use Rattle.transcript.specs.Text.{space, newline}

-- "decimal": the digits of a number below 1000, no zero in front
abbrev pub digit : ℕ → ℕ
digit d = 0x30 + d

unfoldable pub decimal : ℕ → List ℕ
decimal n =
    cond (ltb n 10) (digit n ∷ [])
    (cond (ltb n 100) (digit (n / 10) ∷ digit (n % 10) ∷ [])
    (digit (n / 100) ∷ digit (n / 10 % 10) ∷ digit (n % 10) ∷ []))

-- "single spaces": a space, and the number
unfoldable pub spaced : ℕ → List ℕ
spaced n = space ∷ decimal n

-- "all status bytes": those of the records block of n events
unfoldable pub status_bytes : ℕ → List ℕ → List ℕ
status_bytes n records = join_below n (λ e. (stored_at e records).status ∷ [])

-- "answer and all status bytes, decimal, single spaces, newline"
unfoldable pub line : ℕ → List ℕ → List ℕ
line answer statuses = decimal answer ++ flat_map spaced statuses ++ (newline ∷ [])

-- what the code asks before it writes the status bytes of n events from `at` on: a space and three digits at most for
-- each
pub record Room (n : ℕ) (records : List ℕ) (at : ℕ) (buffer : List ℕ) : Type 0 where
  pub records_long : record_width * n ≤ length records
  pub buffer_long : at + 4 * n ≤ length buffer
