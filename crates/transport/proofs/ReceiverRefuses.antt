-- "The receiver refuses … and drops the message"; "a refused frame writes nothing". Assumes nothing.
use mathlib.Core.Path.{◌≡◌, refl}
use mathlib.Core.Bool.{Bool, true, false, ◌&&◌, cond}
use mathlib.Core.List.{List}
use Prim.Native.Nat.{ℕ, ◌+◌, ◌%◌, ◌≤◌, ◌<◌}
use native.Mathlib.Omega.{arith}
use lib.ListN.{length}
use lib.Dec.{leb, eqb}
use borrow.Author.Tests.{lt-leb, le-leb, ne_eqb, le-ltb, lt-ltb}
use Rattle.transport.specs.declared.CanFrame.{CanFrame}
use Rattle.transport.specs.declared.Receiver.{Receiver}
use Rattle.transport.specs.declared.Receiver.TheVariants.{Idle, Collecting}
use Rattle.transport.specs.declared.Refused.{Refused}
use Rattle.transport.specs.declared.TakeAnswer.{TakeAnswer}
use Rattle.std.specs.Prelude.{Result, Ok, Err}
use Rattle.transport.specs.Frames.{byte, last_number, has, thirteen}
use Rattle.transport.specs.Receiving.{Taken, Took, took, taken, refused, announced, takes_single, takes_first, takes_next}
use Rattle.transport.specs.Receiving.{beginning, awaits, received, collecting, take_frame}

and_false : (a : Bool) → (a && false) ≡ false
and_false true = refl
and_false false = refl

-- ---- whatever is refused leaves the room as it was, and the receiver idle

abbrev pub is_refused : Result TakeAnswer Refused → Bool
is_refused (Ok answer) = false
is_refused (Err e) = true

abbrev DropsAll : List ℕ → Took → Type 0
DropsAll room t = is_refused t.taken.answer ≡ true → t ≡ took (taken (Err thirteen) Idle) room

accepted : (room : List ℕ) (t : Took) → is_refused t.taken.answer ≡ false → DropsAll room t
accepted room t goes e = cc

either : (room : List ℕ) (a : Bool) (p q : Took) → DropsAll room p → DropsAll room q → DropsAll room (cond a p q)
either room true p q x y = x
either room false p q x y = y

neither : (a : Bool) (p q : Taken) → is_refused p.answer ≡ false → is_refused q.answer ≡ false
    → is_refused (cond a p q).answer ≡ false
neither true p q x y = x
neither false p q x y = y

module _ (block separation : ℕ) (room : List ℕ) (f : CanFrame) where
  goes_on : (size k left : ℕ) → is_refused (received block separation size k left).answer ≡ false
  unfolding received awaits
  goes_on size k left =
      neither (eqb k (last_number size)) _ _ refl
      (neither (eqb left 0) _ _ refl (neither (eqb left 1) _ _ refl refl))

  pub refused_drops_all : (r : Receiver) → DropsAll room (take_frame block separation r room f)
  unfolding beginning collecting
  refused_drops_all Idle =
      either room (takes_single (length room) f) _ _ (accepted room _ refl)
      (either room (takes_first (length room) f) _ _ (accepted room _ refl) (λ e. refl))
  refused_drops_all (Collecting size k left) =
      either room (takes_next (length room) size k f) _ _ (accepted room _ (goes_on size k left)) (λ e. refl)

  -- ---- while frame k is due

  -- "a wrong N", and any other frame not due
  pub wrong_frame_refused : (size k left : ℕ) → (byte f 0 ≡ 0x20 + k % 16 → ⊥)
      → take_frame block separation (Collecting size k left) room f ≡ took refused room
  unfolding collecting takes_next
  wrong_frame_refused size k left h =
      rw (ne_eqb (byte f 0) (0x20 + k % 16) h, and_false (has size k && leb size (length room)))

  -- a receiver that awaits a frame which its message does not have is none that a call makes: nothing is due to it
  pub impossible_refuses : (size k left : ℕ) → has size k ≡ false
      → take_frame block separation (Collecting size k left) room f ≡ took refused room
  unfolding collecting takes_next
  impossible_refuses size k left h = rw h

  -- ---- while nothing is under way

  -- "any frame not due"
  pub idle_refuses : 0x20 ≤ byte f 0 → take_frame block separation Idle room f ≡ took refused room
  unfolding beginning takes_single takes_first
  idle_refuses h =
      rw (
        le-leb 1 (byte f 0) (omega arith),
        lt-leb (byte f 0) 7 (omega arith),
        le-leb 0x10 (byte f 0) (omega arith),
        le-ltb (byte f 0) 0x20 h,
      )

  -- "a single-frame length of 0"
  pub none_refused : byte f 0 ≡ 0 → take_frame block separation Idle room f ≡ took refused room
  unfolding beginning takes_single takes_first
  none_refused e = rw e

  -- "or above 7"
  pub above_7_refused : 7 < byte f 0 → byte f 0 < 0x10 → take_frame block separation Idle room f ≡ took refused room
  unfolding beginning takes_single takes_first
  above_7_refused h g =
      rw (le-leb 1 (byte f 0) (omega arith), lt-leb (byte f 0) 7 h, lt-leb 0x10 (byte f 0) g)

  module _ (least : 0x10 ≤ byte f 0) (most : byte f 0 < 0x20) where
    not_single : takes_single (length room) f ≡ false
    unfolding takes_single
    not_single = rw (le-leb 1 (byte f 0) (omega arith), lt-leb (byte f 0) 7 (omega arith))

    -- "a first frame below 8"
    pub below_8_refused : announced f < 8 → take_frame block separation Idle room f ≡ took refused room
    unfolding beginning takes_first
    below_8_refused h =
        rw (not_single, le-leb 0x10 (byte f 0) least, lt-ltb (byte f 0) 0x20 most, lt-leb 8 (announced f) h)

    -- "a length above its room", of a first frame
    pub above_room_refused : length room < announced f → take_frame block separation Idle room f ≡ took refused room
    unfolding beginning takes_first
    above_room_refused h =
        rw (
          not_single,
          lt-leb (announced f) (length room) h,
          and_false (leb 0x10 (byte f 0) && _ && leb 8 (announced f)),
        )

  -- and of a single frame
  pub single_above_room_refused : byte f 0 < 0x10 → length room < byte f 0
      → take_frame block separation Idle room f ≡ took refused room
  unfolding beginning takes_single takes_first
  single_above_room_refused g h =
      rw (lt-leb (byte f 0) (length room) h, and_false (leb 1 (byte f 0) && leb (byte f 0) 7), lt-leb 0x10 (byte f 0) g)
