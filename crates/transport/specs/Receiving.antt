-- Document 02, W13: what a receiver does with a frame, whatever receiver, room and frame it is given. Assumes nothing.
use Rattle.std.specs.Prelude.{Bool, ◌&&◌, cond, List, ℕ, ◌+◌, ◌-◌, ◌*◌, ◌%◌, min, length, take, drop, eqb, leb, ltb}
use Rattle.std.specs.Prelude.{Result, Ok, Err}
use Rattle.std.proofs.lemmas.List.Edits.{sets}
use Rattle.transport.specs.declared.CanFrame.{CanFrame}
use Rattle.transport.specs.declared.Receiver.{Receiver}
use Rattle.transport.specs.declared.Receiver.TheVariants.{Idle, Collecting}
use Rattle.transport.specs.declared.Refused.{Refused}
use Rattle.transport.specs.declared.TakeAnswer.{TakeAnswer}
use Rattle.transport.specs.declared.TakeAnswer.TheVariants.{Going, Control, Complete}
use Rattle.transport.specs.Frames.{byte, place, last_number, has, control, thirteen}

-- what a frame is answered, and where the receiver then stands
pub record Taken : Type 0 where
  pub answer : Result TakeAnswer Refused
  pub receiver : Receiver

-- the same, and the room as the call leaves it
pub record Took : Type 0 where
  pub taken : Taken
  pub room : List ℕ

abbrev pub took : Taken → List ℕ → Took
took t room = record { taken = t; room = room }

abbrev pub taken : Result TakeAnswer Refused → Receiver → Taken
taken answer r = record { answer = answer; receiver = r }

-- "and drops the message"
abbrev pub refused : Taken
refused = taken (Err thirteen) Idle

-- of a frame that is taken or refused
abbrev pub taken_by : Result (TakeAnswer × Receiver) Refused → Taken
taken_by (Ok (answer, r)) = taken (Ok answer) r
taken_by (Err e) = taken (Err e) Idle

abbrev pub going : Receiver → Taken
going r = taken (Ok Going) r

abbrev pub complete : ℕ → Taken
complete size = taken (Ok (Complete size)) Idle

-- ---- which frames are taken

-- while nothing is under way a single frame: "refuses … a single-frame length of 0 or above 7 … a length above its
-- room"
unfoldable pub takes_single : ℕ → CanFrame → Bool
takes_single space f = leb 1 (byte f 0) && leb (byte f 0) 7 && leb (byte f 0) space

-- `1L LL`: the length that a first frame tells
abbrev pub announced : CanFrame → ℕ
announced f = byte f 0 % 16 * 256 + byte f 1

-- or a first frame: "refuses … a first frame below 8, a length above its room"
unfoldable pub takes_first : ℕ → CanFrame → Bool
takes_first space f = leb 0x10 (byte f 0) && ltb (byte f 0) 0x20 && leb 8 (announced f) && leb (announced f) space

-- while frame k is due that frame: "refuses a wrong N … and any frame not due (a house rule)"
unfoldable pub takes_next : ℕ → ℕ → ℕ → CanFrame → Bool
takes_next space size k f = has size k && leb size space && eqb (byte f 0) (0x20 + k % 16)

-- ---- what becomes of the receiver and the room

module _ (block separation : ℕ) where
  abbrev pub asks : Receiver → Taken
  asks r = taken (Ok (Control (control block separation))) r

  -- "a refused frame writes nothing"
  unfoldable pub beginning : List ℕ → CanFrame → Took
  beginning room f =
      cond (takes_single (length room) f)
      (took (complete (byte f 0)) (sets room 0 (take (byte f 0) (drop 1 f.bytes))))
      (cond (takes_first (length room) f)
      (took (asks (Collecting (announced f) 1 block)) (sets room 0 (take 6 (drop 2 f.bytes))))
      (took refused room))

  -- frame k comes next, behind one before which so many were left of the block: "block size 0 asks for no further flow
  -- control"
  unfoldable pub awaits : ℕ → ℕ → ℕ → Taken
  awaits size k left =
      cond (eqb left 0) (going (Collecting size k 0))
      (cond (eqb left 1) (asks (Collecting size k block)) (going (Collecting size k (left - 1))))

  -- the receiver after frame k
  unfoldable pub received : ℕ → ℕ → ℕ → Taken
  received size k left = cond (eqb k (last_number size)) (complete size) (awaits size (k + 1) left)

  -- of the last frame only the bytes that the message has are written
  unfoldable pub collecting : ℕ → ℕ → ℕ → List ℕ → CanFrame → Took
  collecting size k left room f =
      cond (takes_next (length room) size k f)
      (took (received size k left) (sets room (place k) (take (min 7 (size - place k)) (drop 1 f.bytes))))
      (took refused room)

  abbrev pub take_frame : Receiver → List ℕ → CanFrame → Took
  take_frame Idle room f = beginning room f
  take_frame (Collecting size k left) room f = collecting size k left room f
