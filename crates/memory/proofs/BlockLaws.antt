-- The bytes that the closing of a gap leaves, as its loops write them, place by place.
use mathlib.Core.Path.{◌≡◌, refl, sym, ap, ◌∙◌}
use mathlib.Core.List.{List, [], ◌∷◌, ◌++◌, append_assoc}
use Prim.Native.Nat.{ℕ, ◌+◌, ◌-◌, ◌≤◌}
use native.Mathlib.Nat.{add-zero}
use native.Mathlib.Omega.{arith}
use lib.ListN.{length, take, drop, get_or, set, replicate, length-append, length-take, length-drop, length-replicate}
use lib.ListN.{take-append-drop, drop_of_length-le}
use lib.Seq.{get_or-drop, length-take-le, take_at, drop_at, drop-drop, sets, sets-eq}
use Rattle.writing.specs.Filled.{filled_from}
use Rattle.memory.specs.Block.{closed}

module _ (at w : ℕ) (m : List ℕ) (fits : at + w ≤ length m) where
  pub closed_length : length (closed at w m) ≡ length m
  unfolding closed
  closed_length = simp (length-append, length-take, length-drop, length-replicate) (omega arith)

-- ---- byte by byte

module _ (at w k : ℕ) (m : List ℕ) (fits : at + w + k ≤ length m) where
  moved_length : length (take k (drop (at + w) m)) ≡ k
  moved_length = length-take-le k (drop (at + w) m) (omega (arith, length-drop (at + w) m))

  -- closing the rest of the gap is closing the gap
  pub closed_on : closed (at + k) w (sets m at (take k (drop (at + w) m))) ≡ closed at w m
  unfolding closed
  closed_on =
      let xs = take k (drop (at + w) m) in
      let n : length (take at m ++ xs) ≡ at + k =
      length-append (take at m) xs ∙ (λ i. length-take-le at m (omega arith) i + moved_length i) in
      let is : sets m at xs ≡ (take at m ++ xs) ++ drop (at + k) m =
      sets-eq xs m at (omega (arith, moved_length))
      ∙ ap (λ (j : ℕ). (take at m ++ xs) ++ drop (at + j) m) moved_length in
      let front : take (at + k) (sets m at xs) ≡ take at m ++ xs =
      ap (take (at + k)) is ∙ take_at (take at m ++ xs) (drop (at + k) m) (at + k) n in
      let swapped : at + k + w ≡ at + w + k = omega arith in
      let behind : drop (at + k + w) (sets m at xs) ≡ drop k (drop (at + w) m) =
      sym (drop-drop w (at + k) (sets m at xs))
      ∙ ap (drop w) (ap (drop (at + k)) is ∙ drop_at (take at m ++ xs) (drop (at + k) m) (at + k) n)
      ∙ drop-drop w (at + k) m
      ∙ ap (λ (j : ℕ). drop j m) swapped
      ∙ sym (drop-drop k (at + w) m) in
      (λ i. front i ++ (behind i ++ replicate w 0))
      ∙ append_assoc (take at m) xs (drop k (drop (at + w) m) ++ replicate w 0)
      ∙ ap (λ (l : List ℕ). take at m ++ l)
      (sym (append_assoc xs (drop k (drop (at + w) m)) (replicate w 0))
      ∙ ap (λ (l : List ℕ). l ++ replicate w 0) (take-append-drop k (drop (at + w) m)))

first : (l : List ℕ) → 1 ≤ length l → get_or l 0 0 ∷ [] ≡ take 1 l
first [] h = absurd (omega arith)
first (x ∷ l) h = refl

-- one byte of it moved
pub closed_one : (at w : ℕ) (m : List ℕ) → at + w + 1 ≤ length m
    → closed (at + 1) w (set m at (get_or m (at + w) 0)) ≡ closed at w m
closed_one at w m h =
    let byte : get_or m (at + w) 0 ≡ get_or (drop (at + w) m) 0 0 =
    ap (λ (k : ℕ). get_or m k 0) (sym (add-zero (at + w))) ∙ sym (get_or-drop (at + w) m 0 0) in
    let one : get_or m (at + w) 0 ∷ [] ≡ take 1 (drop (at + w) m) =
    ap (λ (x : ℕ). x ∷ []) byte ∙ first (drop (at + w) m) (omega (arith, length-drop (at + w) m)) in
    ap (λ (l : List ℕ). closed (at + 1) w (sets m at l)) one ∙ closed_on at w 1 m h

-- a gap at the end is closed by bytes 0
pub closed_end : (at w : ℕ) (m : List ℕ) → at + w ≡ length m → filled_from 0 at m ≡ closed at w m
unfolding closed filled_from
closed_end at w m fits =
    let rest : length m - at ≡ w = omega (arith, fits) in
    ap (λ (k : ℕ). take at m ++ replicate k 0) rest
    ∙ ap (λ (l : List ℕ). take at m ++ (l ++ replicate w 0))
    (sym (drop_of_length-le m {i = at + w} (omega (arith, fits))))
