-- Laws of frames, and of a room that fills from the front. Assumes nothing.
use mathlib.Core.Path.{◌≡◌, refl, sym, ap, ◌∙◌}
use mathlib.Core.Bool.{Bool, true, false, ◌&&◌}
use mathlib.Core.List.{List, ◌++◌}
use Prim.Native.Nat.{ℕ, ◌+◌, ◌-◌, ◌/◌, ◌≤◌, min}
use native.Mathlib.Omega.{arith}
use lib.ListN.{length, take, drop, replicate, length-append, length-take, length-drop}
use lib.ListN.{take-append-drop, length-replicate}
use lib.Seq.{sets, sets-eq, take_at, drop-append-add, drop-drop, take-add, length-take-le}
use lib.Dec.{leb}
use borrow.Author.Tests.{le-leb, leb-true}
use Rattle.transport.specs.Frames.{padded, byte, frame, place, last_number, longest, has}
use Rattle.transport.specs.Frames.{single, first, consecutive}

-- ---- what a test tells

pub and_left : (a b : Bool) → (a && b) ≡ true → a ≡ true
and_left true b h = refl
and_left false b h = h

pub and_right : (a b : Bool) → (a && b) ≡ true → b ≡ true
and_right true b h = h
and_right false b h = cc

-- ---- the frames that a message has

pub has_so : (size k : ℕ) → 8 ≤ size → size ≤ longest → 1 ≤ k → k ≤ last_number size → has size k ≡ true
unfolding has
has_so size k a b c d = rw (le-leb 8 size a, le-leb size longest b, le-leb 1 k c, le-leb k (last_number size) d)

-- what it tells that a message of this length has consecutive frame k
pub has_tells : (size k : ℕ) → has size k ≡ true → (8 ≤ size) × (size ≤ longest) × (1 ≤ k) × (k ≤ last_number size)
unfolding has
has_tells size k h =
    let a = leb 8 size in
    let b = leb size longest in
    let c = leb 1 k in
    let d = leb k (last_number size) in (
      leb-true 8 size (and_left a b (and_left (a && b) c (and_left (a && b && c) d h))),
      leb-true size longest (and_right a b (and_left (a && b) c (and_left (a && b && c) d h))),
      leb-true 1 k (and_right (a && b) c (and_left (a && b && c) d h)),
      leb-true k (last_number size) (and_right (a && b && c) d h),
    )

-- ---- a room that holds the first i bytes of a message, the rest as found

abbrev pub mixed : ℕ → List ℕ → List ℕ → List ℕ
mixed i m room = take i m ++ drop i room

pub length_mixed : (m room : List ℕ) → length m ≤ length room → (i : ℕ) → i ≤ length m
    → length (mixed i m room) ≡ length room
length_mixed m room fits i h =
    length-append (take i m) (drop i room) ∙ rw (length-take-le i m h, length-drop i room) (omega arith)

module _ (m room : List ℕ) (fits : length m ≤ length room) (i n : ℕ) (within : i + n ≤ length m) where
  front : length (take i m) ≡ i
  front = length-take-le i m (omega arith)

  part : length (take n (drop i m)) ≡ n
  part = length-take-le n (drop i m) (simp length-drop (omega arith))

  rest : drop (i + n) (mixed i m room) ≡ drop (i + n) room
  rest =
      ap (λ (k : ℕ). drop (k + n) (mixed i m room)) (sym front) ∙ drop-append-add (take i m) (drop i room) n
      ∙ drop-drop n i room

  pub mixed_more : sets (mixed i m room) i (take n (drop i m)) ≡ mixed (i + n) m room
  mixed_more =
      sets-eq (take n (drop i m)) (mixed i m room) i
      (rw (part, length_mixed m room fits i (omega arith)) (omega arith))
      ∙ rw (part, rest, take_at (take i m) (drop i room) i front, take-add i n m)

-- ---- the bytes that a receiver takes out of a frame

pub take_short : (n : ℕ) (xs : List ℕ) → take (min n (length xs)) xs ≡ take n xs
take_short n xs =
    ap (take (min n (length xs))) (sym (take-append-drop n xs))
    ∙ take_at (take n xs) (drop n xs) (min n (length xs)) (length-take n xs)

-- "8-byte frames"
pub eight : (xs : List ℕ) → length xs ≤ 8 → length (frame xs).bytes ≡ 8
unfolding padded
eight xs h =
    rw (length-append xs (replicate (8 - length xs) 0), length-replicate {A = ℕ} (8 - length xs) 0) (omega arith)

module _ (m : List ℕ) where
  pub single_length : byte (single m) 0 ≡ length m
  unfolding padded
  single_length = refl

  pub first_byte : byte (first m) 0 ≡ 0x10 + length m / 256
  unfolding padded
  first_byte = refl

  pub single_body : length m ≤ 7 → take (length m) (drop 1 (single m).bytes) ≡ m
  unfolding padded
  single_body h = take_at m _ (length m) refl

  pub first_body : 6 ≤ length m → take 6 (drop 2 (first m).bytes) ≡ take 6 m
  unfolding padded
  first_body h = take_at (take 6 m) _ 6 (length-take-le 6 m h)

  -- all of a consecutive frame but its first byte and its zeros
  pub consecutive_body : (k : ℕ)
      → take (min 7 (length m - place k)) (drop 1 (consecutive m k).bytes)
      ≡ take (min 7 (length m - place k)) (drop (place k) m)
  unfolding padded
  consecutive_body k =
      let part = take 7 (drop (place k) m) in
      let long = min 7 (length m - place k) in
      take_at part _ long (length-take 7 (drop (place k) m) ∙ rw length-drop)
      ∙ sym (take_short 7 (drop (place k) m)) ∙ rw length-drop
