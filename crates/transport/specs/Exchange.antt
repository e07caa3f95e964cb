-- Document 02, W13: "a receiver … from an undisturbed sender". Undisturbed: every frame arrives once and in order,
-- nothing else arrives, and flow control reaches the sender before it is asked for the next frame; waits (`31`) may
-- come before it. Assumes nothing.
use Rattle.std.specs.Prelude.{◌&&◌, cond, List, ◌++◌, ℕ, zero, suc, length, drop, eqb, leb}
use Rattle.std.specs.Prelude.{Option, Some, None, Result, Ok, Err}
use Rattle.transport.specs.declared.Sender.{Sender}
use Rattle.transport.specs.declared.Receiver.{Receiver}
use Rattle.transport.specs.declared.CanFrame.{CanFrame}
use Rattle.transport.specs.declared.Refused.{Refused}
use Rattle.transport.specs.declared.FlowAnswer.{FlowAnswer}
use Rattle.transport.specs.declared.FlowAnswer.TheVariants.{Go, Wait, Aborted}
use Rattle.transport.specs.declared.TakeAnswer.{TakeAnswer}
use Rattle.transport.specs.declared.TakeAnswer.TheVariants.{Going, Control, Complete}
use Rattle.transport.specs.declared.Stage.{Stage}
use Rattle.transport.specs.declared.Stage.TheVariants.{Coming, Arrived, Failed}
use Rattle.transport.specs.declared.Line.{Line}
use Rattle.transport.specs.Frames.{pause}
use Rattle.transport.specs.Sending.{allowed, start, Flowed, flow, Next, next_frame}
use Rattle.transport.specs.Receiving.{Took, take_frame}

-- both ends, how far it is, and the receiver's room
pub record Exchange : Type 0 where
  pub line : Line
  pub room : List ℕ

abbrev pub joined : Sender → Receiver → Stage → Line
joined s r stage = record { sender = s; receiver = r; stage = stage }

abbrev pub on_line : Line → List ℕ → Exchange
on_line l room = record { line = l; room = room }

abbrev pub exchange : Sender → Receiver → Stage → List ℕ → Exchange
exchange s r stage room = on_line (joined s r stage) room

-- the sender after so many flow controls that say wait
unfoldable pub waited : ℕ → Sender → Sender
waited zero s = s
waited (suc n) s = waited n (flow s pause).sender

-- ---- a turn: the receiver takes the frame on the line, and what it answers is done. What is refused, aborted or not
-- due makes it fail

-- the frame that the sender hands over goes on the line
unfoldable pub offered : Option CanFrame → Sender → Receiver → Line
offered (Some f) s r = joined s r (Coming f)
offered None s r = joined s r Failed

abbrev pub offered_by : Next → Receiver → Line
offered_by x r = offered x.frame x.sender r

abbrev pub asked : List ℕ → Sender → Receiver → Line
asked m s r = offered_by (next_frame s m) r

module _ (separation : ℕ) (m : List ℕ) where
  -- "The separation time is passed up to the driver.": only that of the receiver
  unfoldable pub told_by : Result FlowAnswer Refused → Sender → Receiver → Line
  told_by (Ok (Go time)) s r = cond (eqb time separation) (asked m s r) (joined s r Failed)
  told_by (Ok Wait) s r = joined s r Failed
  told_by (Ok Aborted) s r = joined s r Failed
  told_by (Err e) s r = joined s r Failed

  abbrev pub told : Flowed → Receiver → Line
  told x r = told_by x.answer x.sender r

  -- flow control goes to the sender, behind so many that say wait
  unfoldable pub answered_by : ℕ → Sender → Result TakeAnswer Refused → Receiver → Line
  answered_by waits s (Ok Going) r = asked m s r
  answered_by waits s (Ok (Control f)) r = told (flow (waited waits s) f) r
  answered_by waits s (Ok (Complete size)) r = joined s r (Arrived size)
  answered_by waits s (Err e) r = joined s r Failed

  abbrev pub answered : ℕ → Sender → Took → Exchange
  answered waits s t = on_line (answered_by waits s t.taken.answer t.taken.receiver) t.room

  abbrev pub turn_at : ℕ → ℕ → Sender → Receiver → Stage → List ℕ → Exchange
  turn_at block waits s r (Coming f) room = answered waits s (take_frame block separation r room f)
  turn_at block waits s r (Arrived size) room = exchange s r (Arrived size) room
  turn_at block waits s r Failed room = exchange s r Failed room

unfoldable pub turn : ℕ → ℕ → ℕ → List ℕ → Exchange → Exchange
turn block separation waits m x =
    turn_at separation m block waits x.line.sender x.line.receiver x.line.stage x.room

-- ---- all turns

abbrev pub begun_by : Result (CanFrame × Sender) Refused → Line
begun_by (Ok (f, s)) = joined s Receiver.Idle (Coming f)
begun_by (Err e) = joined Sender.Idle Receiver.Idle Failed

-- the sender starts, and the receiver is idle
unfoldable pub begun : List ℕ → List ℕ → Exchange
begun m room = on_line (begun_by (start m)) room

-- so many turns; at each the receiver may be given another block size and separation time, and there may be any number
-- of waits
module _ (blocks separations waits : ℕ → ℕ) (m : List ℕ) where
  unfoldable pub turns : ℕ → Exchange → Exchange
  turns zero x = x
  turns (suc n) x = turn (blocks n) (separations n) (waits n) m (turns n x)

-- ---- how it ends

-- how far it is, and what stands in the room
pub record Ended : Type 0 where
  pub stage : Stage
  pub room : List ℕ

abbrev pub ended_at : Stage → List ℕ → Ended
ended_at stage room = record { stage = stage; room = room }

abbrev pub ended : Exchange → Ended
ended x = ended_at x.line.stage x.room

-- "the message sent, for every length 1 to 4,095 that its room holds": it stands at the front of the room, what follows
-- it is as found; any other fails, and the room is as found
unfoldable pub looped_back : List ℕ → List ℕ → Ended
looped_back m room =
    cond (allowed (length m) && leb (length m) (length room))
    (ended_at (Arrived (length m)) (m ++ drop (length m) room))
    (ended_at Failed room)
