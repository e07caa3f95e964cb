-- How many frames a message has, and of how many bytes each is. Assumes nothing.
use mathlib.Core.Path.{◌≡◌, refl, ap}
use mathlib.Core.Bool.{Bool, true, false, cond}
use mathlib.Core.List.{List, [], ◌∷◌}
use Prim.Native.Nat.{ℕ, zero, suc, ◌+◌, ◌/◌, ◌%◌, ◌≤◌, ◌<◌}
use native.Mathlib.Omega.{arith}
use lib.ListN.{length, take, drop, length-take}
use lib.Dec.{leb, eqb}
use borrow.Author.Tests.{leb-true}
use Rattle.std.specs.List.{list_all}
use Rattle.transport.specs.declared.CanFrame.{CanFrame}
use Rattle.transport.specs.Frames.{single, first, place, last_number}
use Rattle.transport.proofs.FramesLaws.{eight}
use Rattle.transport.specs.Segments.{consecutives, segments, frame_count}

length_consecutives : (m : List ℕ) (k n : ℕ) → length (consecutives m k n) ≡ n
unfolding consecutives
length_consecutives m k zero = refl
length_consecutives m k (suc n) = ap suc (length_consecutives m (k + 1) n)

pub length_segments : (m : List ℕ) → length (segments m) ≡ frame_count (length m)
unfolding segments frame_count
length_segments m = go (leb (length m) 7)
  where
    go : (b : Bool)
        → length (cond b (single m ∷ []) (first m ∷ consecutives m 1 (last_number (length m))))
        ≡ cond b 1 (1 + last_number (length m))
    go true = refl
    go false = let e = length_consecutives m 1 (last_number (length m)) in omega (arith, e)

-- ---- "8-byte frames": each frame of a message has eight bytes

abbrev pub of_eight : CanFrame → Bool
of_eight f = eqb (length f.bytes) 8

consecutives_of_eight : (m : List ℕ) (k n : ℕ) → list_all of_eight (consecutives m k n) ≡ true
unfolding consecutives
consecutives_of_eight m k zero = refl
consecutives_of_eight m k (suc n) =
    let part = take 7 (drop (place k) m) in
    let short : length ((0x20 + k % 16) ∷ part) ≤ 8 = omega (arith, length-take 7 (drop (place k) m)) in
    rw (eight ((0x20 + k % 16) ∷ part) short) (consecutives_of_eight m (k + 1) n)

pub segments_of_eight : (m : List ℕ) → list_all of_eight (segments m) ≡ true
unfolding segments
segments_of_eight m = go (leb (length m) 7) refl
  where
    go : (b : Bool) → leb (length m) 7 ≡ b
        → list_all of_eight (cond b (single m ∷ []) (first m ∷ consecutives m 1 (last_number (length m)))) ≡ true
    go true e =
        let short = leb-true (length m) 7 e in
        let fits : length (length m ∷ m) ≤ 8 = omega (arith, short) in
        rw (eight (length m ∷ m) fits) refl
    go false e =
        let bytes = (0x10 + length m / 256) ∷ length m % 256 ∷ take 6 m in
        let fits : length bytes ≤ 8 = omega (arith, length-take 6 m) in
        rw (eight bytes fits) (consecutives_of_eight m 1 (last_number (length m)))

-- ---- how far they reach

-- the last frame holds a byte, and no byte comes behind it
pub nothing_left_over : (size : ℕ) → 8 ≤ size
    → (1 ≤ last_number size) × (place (last_number size) < size) × (size ≤ place (last_number size + 1))
nothing_left_over size h = (omega arith, omega arith, omega arith)

-- a frame before the consecutive ones, whether single or first
pub frames_at_most : (size : ℕ) → frame_count size ≤ 1 + last_number size
unfolding frame_count
frames_at_most size = go (leb size 7)
  where
    go : (b : Bool) → cond b 1 (1 + last_number size) ≤ 1 + last_number size
    go true = omega arith
    go false = omega arith
