-- Document 02, W13: what the calls of a sender do, whatever sender, message and frame they are given. Assumes nothing.
use Rattle.std.specs.Prelude.{Bool, ◌&&◌, cond, List, ℕ, ◌+◌, ◌-◌, length, eqb, leb}
use Rattle.std.specs.Prelude.{Option, Some, None, Result, Ok, Err}
use Rattle.transport.specs.declared.CanFrame.{CanFrame}
use Rattle.transport.specs.declared.Sender.{Sender}
use Rattle.transport.specs.declared.Sender.TheVariants.{Idle, Waiting, Running}
use Rattle.transport.specs.declared.Refused.{Refused}
use Rattle.transport.specs.declared.FlowAnswer.{FlowAnswer}
use Rattle.transport.specs.declared.FlowAnswer.TheVariants.{Go, Wait, Aborted}
use Rattle.transport.specs.Frames.{byte, single, first, consecutive, last_number, longest, has, thirteen}

-- ---- start

-- "A sender refuses messages outside 1 to 4,095 bytes."
abbrev pub allowed : ℕ → Bool
allowed size = leb 1 size && leb size longest

-- "Up to 7 bytes go in a single frame (`0N`); 8 to 4,095 in a first frame": behind it flow control is due
unfoldable pub start : List ℕ → Result (CanFrame × Sender) Refused
start m =
    cond (allowed (length m))
    (cond (leb (length m) 7) (Ok (single m, Idle)) (Ok (first m, Waiting 1)))
    (Err thirteen)

-- ---- flow control

-- what flow control is answered, and where the sender then stands
pub record Flowed : Type 0 where
  pub answer : Result FlowAnswer Refused
  pub sender : Sender

abbrev pub flowed : Result FlowAnswer Refused → Sender → Flowed
flowed answer s = record { answer = answer; sender = s }

-- "Flow control `30`, block size, separation time; `31` waits, `32` or any other first byte aborts"; "The separation
-- time is passed up to the driver."
unfoldable pub controlled : ℕ → CanFrame → Flowed
controlled k f =
    cond (eqb (byte f 0) 0x30) (flowed (Ok (Go (byte f 2))) (Running k (byte f 1)))
    (cond (eqb (byte f 0) 0x31) (flowed (Ok Wait) (Waiting k)) (flowed (Ok Aborted) Idle))

-- it is due before a frame that some message has
unfoldable pub waiting : ℕ → CanFrame → Flowed
waiting k f = cond (has longest k) (controlled k f) (flowed (Err thirteen) (Waiting k))

-- "A sender takes flow control only when it is due, any other state refuses it."
abbrev pub flow : Sender → CanFrame → Flowed
flow Idle f = flowed (Err thirteen) Idle
flow (Waiting k) f = waiting k f
flow (Running k left) f = flowed (Err thirteen) (Running k left)

-- ---- the next frame

-- the frame that is to be sent, if one is due, and where the sender then stands
pub record Next : Type 0 where
  pub frame : Option CanFrame
  pub sender : Sender

abbrev pub offers : Option CanFrame → Sender → Next
offers f s = record { frame = f; sender = s }

-- frame k comes next, behind one before which so many were left of the block: "block size 0 asks for no further flow
-- control"
unfoldable pub carries_on : ℕ → ℕ → Sender
carries_on k left = cond (eqb left 0) (Running k 0) (cond (eqb left 1) (Waiting k) (Running k (left - 1)))

-- the sender after frame k
unfoldable pub sent : ℕ → ℕ → ℕ → Sender
sent size k left = cond (eqb k (last_number size)) Idle (carries_on (k + 1) left)

-- "then consecutive frames", of those that the message has
unfoldable pub running : ℕ → ℕ → List ℕ → Next
running k left m =
    cond (has (length m) k)
    (offers (Some (consecutive m k)) (sent (length m) k left))
    (offers None (Running k left))

-- where nothing is due the sender stands as before
abbrev pub next_frame : Sender → List ℕ → Next
next_frame Idle m = offers None Idle
next_frame (Waiting k) m = offers None (Waiting k)
next_frame (Running k left) m = running k left m
