-- Document 02, W13, for a caller in C: what crosses as plain numbers and bytes. Each call's outcome is that of
-- `transport`. Assumes nothing.
use Rattle.std.specs.Prelude.{cond, List, [], ◌∷◌, ℕ, eqb, Option, Some, None, Result, Ok, Err}
use Rattle.transport.specs.declared.CanFrame.{CanFrame}
use Rattle.transport.specs.declared.Sender.{Sender}
use Rattle.transport.specs.declared.Sender.TheVariants.{Waiting, Running}
use Rattle.transport.specs.declared.Receiver.{Receiver}
use Rattle.transport.specs.declared.Receiver.TheVariants.{Collecting}
use Rattle.transport.specs.declared.Refused.{Refused}
use Rattle.transport.specs.declared.FlowAnswer.{FlowAnswer}
use Rattle.transport.specs.declared.FlowAnswer.TheVariants.{Go, Wait, Aborted}
use Rattle.transport.specs.declared.TakeAnswer.{TakeAnswer}
use Rattle.transport.specs.declared.TakeAnswer.TheVariants.{Going, Control, Complete}
use Rattle.transport.specs.Frames.{frame_of}
use Rattle.transport.specs.Sending.{start, Flowed, flow, Next, next_frame}
use Rattle.transport.specs.Receiving.{Took, take_frame}
use Rattle.can_panel.specs.declared.PanelCanFrame.{PanelCanFrame}
use Rattle.can_panel.specs.declared.PanelSender.{PanelSender}
use Rattle.can_panel.specs.declared.PanelReceiver.{PanelReceiver}
use Rattle.can_panel.specs.declared.PanelStarted.{PanelStarted}
use Rattle.can_panel.specs.declared.PanelFlowed.{PanelFlowed}
use Rattle.can_panel.specs.declared.PanelNext.{PanelNext}
use Rattle.can_panel.specs.declared.PanelTaken.{PanelTaken}

-- ---- what is given

-- 1 waiting, 2 running, any other state idle
unfoldable pub sender_of : PanelSender → Sender
sender_of s =
    cond (eqb s.state 1) (Waiting s.next) (cond (eqb s.state 2) (Running s.next s.left) Sender.Idle)

-- 1 collecting, any other state idle
unfoldable pub receiver_of : PanelReceiver → Receiver
receiver_of r = cond (eqb r.state 1) (Collecting r.size r.next r.left) Receiver.Idle

-- ---- what is handed back

abbrev pub frame_bytes : CanFrame → PanelCanFrame
frame_bytes f = record { bytes = f.bytes }

-- where there is no frame, zeros
abbrev pub no_frame : PanelCanFrame
no_frame = record { bytes = 0 ∷ 0 ∷ 0 ∷ 0 ∷ 0 ∷ 0 ∷ 0 ∷ 0 ∷ [] }

-- an idle one is all zeros
abbrev pub sender_bytes : Sender → PanelSender
sender_bytes Sender.Idle = record { state = 0; left = 0; next = 0 }
sender_bytes (Waiting k) = record { state = 1; left = 0; next = k }
sender_bytes (Running k left) = record { state = 2; left = left; next = k }

abbrev pub receiver_bytes : Receiver → PanelReceiver
receiver_bytes Receiver.Idle = record { state = 0; left = 0; next = 0; size = 0 }
receiver_bytes (Collecting size k left) = record { state = 1; left = left; next = k; size = size }

-- "All these are new number 13"
abbrev pub thirteen : ℕ
thirteen = 13

abbrev pub started_bytes : Result (CanFrame × Sender) Refused → PanelStarted
started_bytes (Ok (f, s)) = record { number = 0; frame = frame_bytes f; sender = sender_bytes s }
started_bytes (Err e) = record { number = thirteen; frame = no_frame; sender = sender_bytes Sender.Idle }

-- a refusal hands back the sender that was given, byte for byte
abbrev pub flowed_bytes : PanelSender → Result FlowAnswer Refused → Sender → PanelFlowed
flowed_bytes given (Ok (Go time)) s = record { number = 0; says = 1; separation = time; sender = sender_bytes s }
flowed_bytes given (Ok Wait) s = record { number = 0; says = 2; separation = 0; sender = sender_bytes s }
flowed_bytes given (Ok Aborted) s = record { number = 0; says = 3; separation = 0; sender = sender_bytes s }
flowed_bytes given (Err e) s = record { number = thirteen; says = 0; separation = 0; sender = given }

-- where nothing is due, the sender that was given
abbrev pub next_bytes : PanelSender → Option CanFrame → Sender → PanelNext
next_bytes given (Some f) s = record { due = 1; frame = frame_bytes f; sender = sender_bytes s }
next_bytes given None s = record { due = 0; frame = no_frame; sender = given }

abbrev pub said : ℕ → ℕ → PanelCanFrame → ℕ → Receiver → PanelTaken
said number says f size r =
    record { number = number; says = says; frame = f; length = size; receiver = receiver_bytes r }

abbrev pub taken_bytes : Result TakeAnswer Refused → Receiver → PanelTaken
taken_bytes (Ok Going) r = said 0 1 no_frame 0 r
taken_bytes (Ok (Control f)) r = said 0 2 (frame_bytes f) 0 r
taken_bytes (Ok (Complete size)) r = said 0 3 no_frame size r
taken_bytes (Err e) r = said thirteen 0 no_frame 0 r

-- ---- the four calls

unfoldable pub start_crosses : List ℕ → PanelStarted
start_crosses m = started_bytes (start m)

abbrev pub flowed_for : PanelSender → Flowed → PanelFlowed
flowed_for given x = flowed_bytes given x.answer x.sender

unfoldable pub flow_crosses : PanelSender → PanelCanFrame → PanelFlowed
flow_crosses s f = flowed_for s (flow (sender_of s) (frame_of f.bytes))

abbrev pub next_for : PanelSender → Next → PanelNext
next_for given x = next_bytes given x.frame x.sender

unfoldable pub next_crosses : PanelSender → List ℕ → PanelNext
next_crosses s m = next_for s (next_frame (sender_of s) m)

-- take's answer, and the room as it leaves it
pub record TakeCrossing : Type 0 where
  pub taken : PanelTaken
  pub room : List ℕ

abbrev pub with_room : PanelTaken → List ℕ → TakeCrossing
with_room t room = record { taken = t; room = room }

abbrev pub took_bytes : Took → TakeCrossing
took_bytes t = with_room (taken_bytes t.taken.answer t.taken.receiver) t.room

unfoldable pub take_crosses : PanelReceiver → List ℕ → ℕ → ℕ → PanelCanFrame → TakeCrossing
take_crosses r room block separation f =
    took_bytes (take_frame block separation (receiver_of r) room (frame_of f.bytes))
