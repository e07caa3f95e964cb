-- Document 02, W13: the frames of a message, and those that a sender hands over. Assumes nothing.
use Rattle.std.specs.Prelude.{Bool, true, false, ◌&&◌, ◌||◌, cond, List, [], ◌∷◌, ◌++◌, ℕ, zero, suc, ◌+◌, length, eqb, leb}
use Rattle.std.specs.Prelude.{Result, Ok, Err, option_to_list}
use Rattle.transport.specs.declared.CanFrame.{CanFrame}
use Rattle.transport.specs.declared.Sender.{Sender}
use Rattle.transport.specs.declared.Refused.{Refused}
use Rattle.transport.specs.Frames.{byte, single, first, consecutive, last_number}
use Rattle.transport.specs.Sending.{start, flow, next_frame}

-- ---- the frames of a message

-- so many consecutive frames, from number k on
unfoldable pub consecutives : List ℕ → ℕ → ℕ → List CanFrame
consecutives m k zero = []
consecutives m k (suc n) = consecutive m k ∷ consecutives m (k + 1) n

-- "Up to 7 bytes go in a single frame (`0N`); 8 to 4,095 in a first frame (`1L LL` and 6 bytes), then consecutive
-- frames"
unfoldable pub segments : List ℕ → List CanFrame
segments m = cond (leb (length m) 7) (single m ∷ []) (first m ∷ consecutives m 1 (last_number (length m)))

-- how many they are, of a message of this length
unfoldable pub frame_count : ℕ → ℕ
frame_count size = cond (leb size 7) 1 (1 + last_number size)

-- ---- the frames that a sender hands over

-- what its driver does with a sender: it gives it a frame as flow control, or asks it for the next frame
pub data Step : Type 0 where
  controls : CanFrame → Step
  asks : Step

module _ (m : List ℕ) where
  -- the sender after a step, and the frame that is handed over in it
  abbrev pub stepped : Step → Sender → Sender
  stepped (controls f) s = (flow s f).sender
  stepped asks s = (next_frame s m).sender

  abbrev pub handed_at : Step → Sender → List CanFrame
  handed_at (controls f) s = []
  handed_at asks s = option_to_list (next_frame s m).frame

  -- the sender after these steps, the first of them first, and the frames that it handed over, in their order
  unfoldable pub after : List Step → Sender → Sender
  after [] s = s
  after (x ∷ l) s = after l (stepped x s)

  unfoldable pub handed : List Step → Sender → List CanFrame
  handed [] s = []
  handed (x ∷ l) s = handed_at x s ++ handed l (stepped x s)

  -- the same from the start of the message on
  abbrev pub sender_of : Result (CanFrame × Sender) Refused → Sender
  sender_of (Ok (f, s)) = s
  sender_of (Err e) = Sender.Idle

  abbrev pub frame_of_start : Result (CanFrame × Sender) Refused → List CanFrame
  frame_of_start (Ok (f, s)) = f ∷ []
  frame_of_start (Err e) = []

  abbrev pub sender_after : List Step → Sender
  sender_after l = after l (sender_of (start m))

  abbrev pub sends : List Step → List CanFrame
  sends l = frame_of_start (start m) ++ handed l (sender_of (start m))

abbrev pub is_idle : Sender → Bool
is_idle Sender.Idle = true
is_idle (Sender.Waiting k) = false
is_idle (Sender.Running k left) = false

-- every frame that is given as flow control begins with `30` or `31`: "`32` or any other first byte aborts"
unfoldable pub calm : List Step → Bool
calm [] = true
calm (controls f ∷ l) = (eqb (byte f 0) 0x30 || eqb (byte f 0) 0x31) && calm l
calm (asks ∷ l) = calm l
