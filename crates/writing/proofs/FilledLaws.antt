-- Laws of specs/Filled.antt: a loop that stores one value in every place from `from` on.
use mathlib.Core.Path.{◌≡◌, sym, ap, ◌∙◌}
use mathlib.Core.List.{List, ◌++◌, append-nil}
use Prim.Native.Nat.{ℕ, ◌+◌, ◌-◌, ◌≤◌, ◌<◌}
use native.Mathlib.Omega.{arith}
use lib.ListN.{length, get_or, take, set, replicate, length-append, length-replicate, get_or-replicate, drop_of_length-le}
use lib.Seq.{length-take-le, take_at, get_or-append-add}
use borrow.Rule.Slice.PartMut.{put_mid, mid_of, post_of, Post-is, mid_len}
use Rattle.writing.proofs.PartlyWritten.{mix, mix_more, mix_all, mix_from}
use Rattle.writing.specs.Filled.{filled_from}

module _ {A : Type 0} (x : A) where
  -- the places below i are as the loop will leave them, the others as they were
  unfoldable pub filled_to : ℕ → List A → ℕ → List A
  filled_to from m i = mix i (filled_from x from m) m

  module _ (from : ℕ) (m : List A) (fits : from ≤ length m) where
    front : length (take from m) ≡ from
    front = length-take-le from m fits

    pub filled_length : length (filled_from x from m) ≡ length m
    unfolding filled_from
    filled_length =
        length-append (take from m) (replicate (length m - from) x)
        ∙ (let n = length-replicate (length m - from) x in let f = front in omega arith)

    filled_at : (i : ℕ) → from ≤ i → i < length m → get_or (filled_from x from m) i x ≡ x
    unfolding filled_from
    filled_at i h l =
        let f = front in
        let e : i ≡ length (take from m) + (i - from) = omega arith in
        ap (λ (k : ℕ). get_or (filled_from x from m) k x) e
        ∙ get_or-append-add (take from m) (replicate (length m - from) x) (i - from) x
        ∙ get_or-replicate (length m - from) (i - from) x x (omega arith)

    pub fill_none : m ≡ filled_to from m from
    unfolding filled_to filled_from
    fill_none = mix_from (filled_from x from m) m from (take_at (take from m) _ from front)

    pub fill_more : (i : ℕ) → from ≤ i → i < length m → {l : List A} → l ≡ filled_to from m i
        → set l i x ≡ filled_to from m (i + 1)
    unfolding filled_to
    fill_more i h k p =
        ap (λ (l : List A). set l i x) p
        ∙ mix_more x (filled_from x from m) m i x filled_length k (sym (filled_at i h k))

    pub fill_all : {i : ℕ} → i ≡ length m → {l : List A} → l ≡ filled_to from m i → l ≡ filled_from x from m
    unfolding filled_to
    fill_all {i} e p = p ∙ mix_all (filled_from x from m) m i filled_length e

  -- a part from `from` on that came back with x in each place
  pub part_filled : (from : ℕ) (m : List A) {part : List A} → from ≤ length m
      → part ≡ replicate (length (mid_of from (length m - from) m)) x
      → put_mid from (length m - from) m part ≡ filled_from x from m
  unfolding filled_from
  part_filled from m fits e =
      ap (λ (l : List A). take from m ++ l)
      (ap (λ (l : List A). l ++ post_of from (length m - from) m) e
      ∙ ap (λ (l : List A). replicate (length (mid_of from (length m - from) m)) x ++ l)
      (Post-is from (length m) m fits ∙ drop_of_length-le m (omega arith))
      ∙ append-nil (replicate (length (mid_of from (length m - from) m)) x)
      ∙ ap (λ (n : ℕ). replicate n x) (mid_len from (length m) m (omega arith)))

  -- every place
  pub filled_whole : (m : List A) → filled_from x 0 m ≡ replicate (length m) x
  unfolding filled_from
  filled_whole m = let e : length m - 0 ≡ length m = omega arith in ap (λ (k : ℕ). replicate k x) e
