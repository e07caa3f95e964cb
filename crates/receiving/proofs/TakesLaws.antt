-- What the tests on a frame tell. Assumes nothing.
use mathlib.Core.Path.{◌≡◌}
use mathlib.Core.Bool.{true, ◌&&◌}
use Prim.Native.Nat.{ℕ, ◌+◌, ◌%◌, ◌≤◌}
use native.Mathlib.Omega.{arith}
use lib.Dec.{leb, ltb, eqb}
use borrow.Author.Tests.{leb-true}
use Rattle.transport.specs.declared.CanFrame.{CanFrame}
use Rattle.transport.specs.Frames.{byte, last_number, longest, has}
use Rattle.transport.specs.Receiving.{takes_single, announced, takes_first, takes_next}
use Rattle.transport.proofs.FramesLaws.{and_left, and_right, has_tells}

module _ (space : ℕ) (f : CanFrame) where
  pub single_tells : takes_single space f ≡ true → (byte f 0 ≤ 7) × (byte f 0 ≤ space)
  unfolding takes_single
  single_tells h =
      let a = leb 1 (byte f 0) in
      let b = leb (byte f 0) 7 in
      let c = leb (byte f 0) space in
      (leb-true (byte f 0) 7 (and_right a b (and_left (a && b) c h)), leb-true (byte f 0) space (and_right (a && b) c h))

  pub first_tells : takes_first space f ≡ true → 8 ≤ space
  unfolding takes_first
  first_tells h =
      let a = leb 0x10 (byte f 0) && ltb (byte f 0) 0x20 in
      let b = leb 8 (announced f) in
      let c = leb (announced f) space in
      let least : 8 ≤ announced f = leb-true 8 (announced f) (and_right a b (and_left (a && b) c h)) in
      let most : announced f ≤ space = leb-true (announced f) space (and_right (a && b) c h) in
      omega arith

  pub next_due : (size k : ℕ) → takes_next space size k f ≡ true → has size k ≡ true
  unfolding takes_next
  next_due size k h =
      let a = has size k in
      let b = leb size space in
      and_left a b (and_left (a && b) (eqb (byte f 0) (0x20 + k % 16)) h)

  pub next_tells : (size k : ℕ) → takes_next space size k f ≡ true
      → (size ≤ space) × (size ≤ longest) × (1 ≤ k) × (k ≤ last_number size)
  unfolding takes_next
  next_tells size k h =
      let a = has size k in
      let b = leb size space in
      let t = has_tells size k (next_due size k h) in
      (leb-true size space (and_right a b (and_left (a && b) (eqb (byte f 0) (0x20 + k % 16)) h)), t.1, t.2, t.3)
