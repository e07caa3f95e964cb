-- What a sender refuses, and what a wait and an abort do. Assumes nothing.
use mathlib.Core.Path.{◌≡◌, refl}
use mathlib.Core.Bool.{true, false}
use mathlib.Core.List.{List, []}
use Prim.Native.Nat.{ℕ, ◌<◌}
use native.Mathlib.Omega.{arith}
use lib.ListN.{length}
use Rattle.std.specs.Prelude.{None, Ok, Err}
use borrow.Author.Tests.{ne_eqb, le-leb, lt-leb}
use Rattle.transport.specs.declared.CanFrame.{CanFrame}
use Rattle.transport.specs.declared.Sender.TheVariants.{Idle, Waiting, Running}
use Rattle.transport.specs.declared.FlowAnswer.TheVariants.{Wait, Aborted}
use Rattle.transport.specs.Frames.{byte, longest, has, thirteen}
use Rattle.transport.specs.Sending.{start, flowed, controlled, waiting, flow, running, offers, next_frame}

-- "A sender refuses messages outside 1 to 4,095 bytes."
pub empty_refused : start [] ≡ Err thirteen
unfolding start
empty_refused = refl

pub long_refused : (m : List ℕ) → longest < length m → start m ≡ Err thirteen
unfolding start
long_refused m h = rw (le-leb 1 (length m) (omega arith), lt-leb (length m) longest h)

module _ (f : CanFrame) where
  -- "any other state refuses it": the sender as given
  pub idle_refuses : flow Idle f ≡ flowed (Err thirteen) Idle
  idle_refuses = refl

  pub running_refuses : (k left : ℕ) → flow (Running k left) f ≡ flowed (Err thirteen) (Running k left)
  running_refuses k left = refl

  -- a sender that waits with a frame that no message has is none that a call makes: nothing is due to it
  pub impossible_refuses : (k : ℕ) → has longest k ≡ false
      → flow (Waiting k) f ≡ flowed (Err thirteen) (Waiting k)
  unfolding waiting
  impossible_refuses k h = rw h

  -- "`31` waits": whatever its other bytes
  pub wait_changes_nothing : (k : ℕ) → has longest k ≡ true → byte f 0 ≡ 0x31
      → flow (Waiting k) f ≡ flowed (Ok Wait) (Waiting k)
  unfolding waiting controlled
  wait_changes_nothing k h e = rw (h, e)

  -- "`32` or any other first byte aborts"
  pub other_aborts : (k : ℕ) → has longest k ≡ true → (byte f 0 ≡ 0x30 → ⊥) → (byte f 0 ≡ 0x31 → ⊥)
      → flow (Waiting k) f ≡ flowed (Ok Aborted) Idle
  unfolding waiting controlled
  other_aborts k h a b = rw (h, ne_eqb (byte f 0) 0x30 a, ne_eqb (byte f 0) 0x31 b)

-- a frame that the message does not have is not due
pub impossible_sends_nothing : (m : List ℕ) (k left : ℕ) → has (length m) k ≡ false
    → next_frame (Running k left) m ≡ offers None (Running k left)
unfolding running
impossible_sends_nothing m k left h = rw h
