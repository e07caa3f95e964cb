-- Document 01, "Replay program": one call of the input made, and its line. Assumes nothing.
use Rattle.std.specs.Prelude.{List, ◌≡◌, true, ℕ, ◌+◌, ◌*◌, ◌≤◌, ℤ, length, replicate}
use Rattle.manual.specs.Configuration.{Configuration, most_events, events, frame_bytes, config_ok}
use Rattle.manual.specs.State.{State, record_width}
use Rattle.manual.specs.Memory.{most_memory}
use Rattle.manual.specs.Answers.{Beside, lent_counts, Outcome}
use Rattle.manual.specs.Counts.{no_counts}
use Rattle.manual.specs.Conditions.{all_present}
use Rattle.manual.specs.Sequences as sequences
use Rattle.manual.specs.Sequences.{outcome}
use Rattle.writing.specs.Writing.{Written, filled}
use Rattle.transcript.specs.declared.Cursor.{Cursor}
use Rattle.transcript.specs.Line.{status_bytes, line}
use Rattle.replay_step.specs.declared.Call.{Call}
use Rattle.replay_step.specs.declared.Call.TheVariants.{Report, Start, Stop, Tick, Clear}
use Rattle.replay_step.specs.declared.Asked.{Asked}
use Rattle.replay_step.specs.declared.Asked.TheVariants.{Makes, Nothing}
use Rattle.replay_step.specs.declared.Stepped.{Stepped}
use Rattle.replay_step.specs.declared.Stepped.TheVariants.{Line, End, BadInput}
use Rattle.replay_step.specs.Asked.{asked_at}

-- the call as the manual's, with the frame that is lent to it; document 02, W5: "The replay program lends all
-- conditions present"
abbrev pub call_is : List ℕ → Call → sequences.Call
call_is frame (Report e code) = sequences.Report e.0 code frame all_present
call_is frame (Start cycle) = sequences.Start cycle
call_is frame (Stop cycle) = sequences.Stop cycle
call_is frame (Tick ms) = sequences.Tick ms frame all_present
call_is frame (Clear code) = sequences.Clear code

-- document 02, W7: the five counts that are lent to each call are 0; none is printed
abbrev pub lent_each : Beside
lent_each = lent_counts no_counts

-- a call's number, and the state that it leaves
pub record Made : Type 0 where
  pub answer : ℕ
  pub state : State

abbrev pub made : ℕ → State → Made
made answer s = record { answer = answer; state = s }

abbrev pub made_by_call : Outcome → Made
made_by_call o = made o.answer o.state

-- what a turn answers, with the buffer and the state that it leaves
pub record Turned : Type 0 where
  pub stepped : Stepped
  pub buffer : List ℕ
  pub state : State

abbrev pub turned : Stepped → List ℕ → State → Turned
turned stepped buffer s = record { stepped = stepped; buffer = buffer; state = s }

-- "Each call prints answer and all status bytes": the line stands in front of the buffer, the rest of it as found
abbrev pub with_line : ℕ → Cursor → Written → State → Turned
with_line answer next w s = turned (Line w.next answer next) w.room s

module _ (cfg : Configuration) where
  -- "frames are zero"
  abbrev pub zero_frame : List ℕ
  zero_frame = replicate (frame_bytes cfg) 0

  abbrev pub line_after : Made → List ℕ
  line_after m = line m.answer (status_bytes (events cfg) m.state.records)

  unfoldable pub lined : Cursor → List ℕ → Made → Turned
  lined next buffer m = with_line m.answer next (filled (line_after m) buffer) m.state

  -- "At anything else unreadable, incomplete, or an argument with a minus: that line and stop."
  abbrev pub turn_by : List ℕ → State → Asked → Turned
  turn_by buffer s (Makes call next) = lined next buffer (made_by_call (outcome cfg (call_is zero_frame call) lent_each s))
  turn_by buffer s Nothing = turned End buffer s
  turn_by buffer s Asked.Unreadable = turned BadInput buffer s

  -- the turn that the text asks for from `at` on
  unfoldable pub turn : ℕ → List ℕ → List ℕ → State → Turned
  turn at text buffer s = turn_by buffer s (asked_at at text)

  -- what a turn may count on: an accepted configuration, records for all its events, and a buffer for the longest line
  pub record Playable (records buffer : List ℕ) : Type 0 where
    pub accepted : config_ok cfg ≡ true
    pub records_long : record_width * events cfg ≤ length records
    pub buffer_long : 4 + 4 * events cfg ≤ length buffer

  -- the program's buffers, of which the blocks are the front parts: an accepted configuration, and room for the largest
  pub record Buffers (records : List ℕ) (debounce : List ℤ) (memory : List ℕ) : Type 0 where
    pub accepted : config_ok cfg ≡ true
    pub for_records : record_width * most_events ≤ length records
    pub for_numbers : most_events ≤ length debounce
    pub for_memory : most_memory ≤ length memory
