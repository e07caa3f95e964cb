-- Read status, read counter, read missing and read frame: their refusal 4, the counter and the lowest missing condition
-- beside the outcome, and where in the caller's own memory block the frame stands. Assumes nothing.
use Rattle.std.specs.Prelude.{Bool, cond, List, [], ◌∷◌, ℕ, ◌+◌, eqb, leb, ℤ, length, take, drop}
use Rattle.std.specs.Prelude.{Some, None, Result, Ok, Err}
use Rattle.manual.specs.declared.FramePart.{FramePart}
use Rattle.manual.specs.declared.Place.{Place}
use Rattle.manual.specs.declared.Which.{Which}
use Rattle.manual.specs.declared.Which.TheVariants.{First, Latest}
use Rattle.manual.specs.declared.Refusal.{Refusal}
use Rattle.manual.specs.declared.Refusal.TheVariants.{NoEntry}
use Rattle.manual.specs.declared.StillMissing.{StillMissing}
use Rattle.manual.specs.Configuration.{Configuration, frame_bytes, entry_frames}
use Rattle.manual.specs.State.{State}
use Rattle.manual.specs.WellFormed.{entries}
use Rattle.manual.specs.Answers.{alone, Outcome, Rule, ◌if◌, of_counter, counter_answered, of_frame, leaves}
use Rattle.manual.specs.Answers.{of_missing, lowest_answered}
use Rattle.manual.specs.Calls.{read_frame}
use Rattle.manual.specs.Counter.{CounterRead}
use Rattle.manual.specs.Missing.{MissingRead}
use Rattle.memory.specs.Places.{Find, frame_at, place_of}

-- "read status 4; read frame 4, 10": the rule that these, read counter and read missing have
abbrev pub four : Bool → List Rule
four no_such = (4 if no_such) ∷ []

-- ---- what read counter answers

-- what an answer says of a state that is left as found
abbrev pub tells : Result ℤ Refusal → State → CounterRead
tells a s = record { outcome = leaves (of_counter a) [] alone s; counter = counter_answered a }

-- ---- what read missing answers

-- what an answer says of a state that is left as found
abbrev pub tells_missing : Result StillMissing Refusal → State → MissingRead
tells_missing a s = record { outcome = leaves (of_missing a) [] alone s; lowest = lowest_answered a }

-- ---- the part of a memory block that an answer names

-- as many bytes as the length from the start on, where all of them lie within the block; else none
unfoldable pub part_at : ℕ → ℕ → List ℕ → List ℕ
part_at start size m = cond (leb (start + size) (length m)) (take size (drop start m)) []

abbrev pub part_of : Result FramePart Refusal → List ℕ → List ℕ
part_of (Ok p) m = part_at p.start p.length m
part_of (Err r) m = []

abbrev pub start_in : Result FramePart Refusal → ℕ
start_in (Ok p) = p.start
start_in (Err r) = 0

abbrev pub length_in : Result FramePart Refusal → ℕ
length_in (Ok p) = p.length
length_in (Err r) = 0

-- ---- what read frame answers

-- the outcome, and where the part stands in the caller's block: two entries may hold the same bytes
pub record FrameRead : Type 0 where
  pub outcome : Outcome
  pub start : ℕ
  pub length : ℕ

-- what an answer says of a state that is left as found
abbrev pub says : Result FramePart Refusal → State → FrameRead
says a s =
    record { outcome = leaves (of_frame a) (part_of a s.memory) alone s; start = start_in a; length = length_in a }

-- document 02, W6: "first frame, latest frame": the bytes of a payload before the chosen one, of frames of F bytes
abbrev pub skipped : Which → ℕ → ℕ
skipped First F = 0
skipped Latest F = F

-- with payloads of W bytes
abbrev pub chosen_part : ℕ → ℕ → Which → Place → FramePart
chosen_part W F which p = record { start = frame_at W p + skipped which F; length = F }

abbrev pub frame_start : ℕ → ℕ → Which → Find → ℕ
frame_start W F which (Some p) = (chosen_part W F which p).start
frame_start W F which None = 0

-- the answer where 2, 3 and 4 do not apply: "10 | event has no memory entry"
abbrev pub entry_answer : ℕ → ℕ → Which → Find → Result FramePart Refusal
entry_answer W F which (Some p) = Ok (chosen_part W F which p)
entry_answer W F which None = Err NoEntry

-- "a frame part empty": a refusal has neither start nor length
abbrev pub placed : Outcome → ℕ → ℕ → FrameRead
placed o start size =
    record { outcome = o; start = cond (eqb o.answer 0) start 0; length = cond (eqb o.answer 0) size 0 }

-- "The stored frame is read as a part of the caller's own memory block, no copy.": the F bytes that stand in the
-- event's own entry; W6: "takes a choice of which, and hands back that part of the block"
unfoldable pub frame_read : Configuration → ℕ → Which → State → FrameRead
frame_read cfg e which s =
    placed (read_frame cfg e which alone s)
    (frame_start (entry_frames cfg) (frame_bytes cfg) which (place_of e (entries cfg s))) (frame_bytes cfg)
