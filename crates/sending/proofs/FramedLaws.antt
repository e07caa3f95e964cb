-- A frame of zeros with a part of a message stored in it, and the part of a message that a frame holds. Assumes nothing.
use mathlib.Core.Path.{◌≡◌, ap, ◌∙◌}
use mathlib.Core.List.{List, ◌∷◌}
use Prim.Native.Nat.{ℕ, zero, suc, ◌+◌, ◌-◌, ◌≤◌, min}
use native.Mathlib.Omega.{arith}
use lib.ListN.{length, take, drop, replicate, length-drop}
use lib.Seq.{sets, sets-eq, drop-nil}
use Rattle.transport.specs.declared.CanFrame.{CanFrame}
use Rattle.transport.specs.Frames.{padded, frame_of, frame}
use Rattle.transport.proofs.FramesLaws.{take_short}

zeros_left : (p n : ℕ) → drop {A = ℕ} n (replicate p 0) ≡ replicate (p - n) 0
zeros_left zero n = let e : 0 - n ≡ 0 = omega arith in drop-nil n ∙ rw e
zeros_left (suc p) zero = let e : suc p - 0 ≡ suc p = omega arith in rw e
zeros_left (suc p) (suc n) = let e : suc p - suc n ≡ p - n = omega arith in zeros_left p n ∙ rw e

after_one : (x : ℕ) (xs : List ℕ) → length xs ≤ 7 → sets (x ∷ replicate 7 0) 1 xs ≡ padded (x ∷ xs)
unfolding padded
after_one x xs short =
    let next : 1 + length xs ≡ suc (length xs) = omega arith in
    let left : 7 - length xs ≡ 8 - suc (length xs) = omega arith in
    sets-eq xs (x ∷ replicate 7 0) 1 (omega arith) ∙ rw (next, zeros_left 7 (length xs), left)

after_two : (x y : ℕ) (xs : List ℕ) → length xs ≤ 6 → sets (x ∷ y ∷ replicate 6 0) 2 xs ≡ padded (x ∷ y ∷ xs)
unfolding padded
after_two x y xs short =
    let next : 2 + length xs ≡ suc (suc (length xs)) = omega arith in
    let left : 6 - length xs ≡ 8 - suc (suc (length xs)) = omega arith in
    sets-eq xs (x ∷ y ∷ replicate 6 0) 2 (omega arith) ∙ rw (next, zeros_left 6 (length xs), left)

module _ {f : CanFrame} where
  pub framed_one : (x : ℕ) (xs : List ℕ) → length xs ≤ 7 → f ≡ frame_of (sets (x ∷ replicate 7 0) 1 xs)
      → f ≡ frame (x ∷ xs)
  framed_one x xs short e = e ∙ ap frame_of (after_one x xs short)

  pub framed_two : (x y : ℕ) (xs : List ℕ) → length xs ≤ 6 → f ≡ frame_of (sets (x ∷ y ∷ replicate 6 0) 2 xs)
      → f ≡ frame (x ∷ y ∷ xs)
  framed_two x y xs short e = e ∙ ap frame_of (after_two x y xs short)

-- the part of a message that a consecutive frame holds
pub part_is : (m : List ℕ) (at size : ℕ) → size ≡ min 7 (length m - at)
    → take (at + size - at) (drop at m) ≡ take 7 (drop at m)
part_is m at size e =
    let d : at + size - at ≡ size = omega arith in rw (d, e, ← length-drop at m) (take_short 7 (drop at m))
