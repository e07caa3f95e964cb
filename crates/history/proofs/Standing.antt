-- "Since L there is a confirming result after which every stretch passes a test", one thing that happens after the
-- other.
use mathlib.Core.Path.{◌≡◌, refl, sym, ap, ◌∙◌}
use mathlib.Core.Bool.{Bool, true, false, ◌&&◌, ◌||◌}
use mathlib.Core.List.{List, [], ◌∷◌, ◌++◌, tail}
use Prim.Native.Nat.{ℕ}
use Rattle.history.specs.Words.{all_of, since, some_with, cut_at}
use Rattle.history.specs.History.{passed, failed, start, stop, History, Moment, moments, is_failed}
use Rattle.history.specs.History.{since_l, confirming, confirming_with, standing}
use Rattle.history.proofs.WordsLaws.{and_true, some_with_cong, some_with_and, since_front}
use Rattle.history.proofs.WordsLaws.{cut_at_newest, all_of_cut_at}
use Rattle.history.proofs.Runs.{moment}

under : (c z y y' : Bool) → c && y' ≡ c && y → c && (z && y) ≡ (c && z) && y'
under true z y y' e = ap (λ t. z && t) (sym e)
under false z y y' e = refl

module _ (C : ℕ) (ok : List Moment → Bool) where
  -- after a confirming result, the newest stretch of what lies after it is the newest of all
  newest_of_all : (a : List Moment) (x : Moment) (r : List Moment) (f : List Moment → Bool)
      → confirming C x && f (since is_failed (a ++ x ∷ r)) ≡ confirming C x && f (since is_failed a)
  unfolding confirming
  newest_of_all a x r f = go (is_failed x) refl
    where
      go : (b : Bool) → is_failed x ≡ b
          → confirming C x && f (since is_failed (a ++ x ∷ r)) ≡ confirming C x && f (since is_failed a)
      go true e = rw (since_front is_failed a x r e)
      go false e = rw e

  -- so while a confirming result stands, the newest stretch passes
  with_newest : (ms : List Moment)
      → some_with (confirming_with C ok) ms ≡ some_with (confirming_with C ok) ms && ok (since is_failed ms)
  unfolding confirming_with
  with_newest ms =
      some_with_cong (confirming_with C ok) (λ a x. confirming_with C ok a x && ok (since is_failed ms)) ms
      (λ a x r q. rw (q, cut_at_newest is_failed a)
      (table (confirming C x) (ok (since is_failed a)) (all_of ok (tail (cut_at is_failed a)))
      (ok (since is_failed (a ++ x ∷ r))) (newest_of_all a x r ok)))
      ∙ some_with_and (confirming_with C ok) (ok (since is_failed ms)) ms
    where
      table : (c y t y' : Bool) → c && y' ≡ c && y → c && (y && t) ≡ (c && (y && t)) && y'
      table true true true y' e = sym e
      table true true false y' e = refl
      table true false t y' e = refl
      table false y t y' e = refl

  module _ (m : Moment) (ms : List Moment) where
    with_other : is_failed m ≡ false → ((s : List Moment) → ok (m ∷ s) ≡ ok (m ∷ s) && ok s)
        → some_with (confirming_with C ok) (m ∷ ms) ≡ some_with (confirming_with C ok) ms && ok (m ∷ since is_failed ms)
    unfolding confirming_with confirming
    with_other e mono =
        rw (e, ← (some_with_and (confirming_with C ok) (ok (m ∷ since is_failed ms)) ms))
        (some_with_cong (λ a. confirming_with C ok (m ∷ a)) (λ a x. confirming_with C ok a x && ok (m ∷ since is_failed ms))
        ms
        λ a x r q. rw (q, all_of_cut_at is_failed ok m a e mono)
        (under (confirming C x) (all_of ok (cut_at is_failed a)) (ok (m ∷ since is_failed a))
        (ok (m ∷ since is_failed (a ++ x ∷ r))) (newest_of_all a x r (λ s. ok (m ∷ s)))))

    with_failed : is_failed m ≡ true → ok [] ≡ true
        → some_with (confirming_with C ok) (m ∷ ms) ≡ confirming C m || some_with (confirming_with C ok) ms
    unfolding confirming_with
    with_failed e z =
        rw (
          some_with_cong (λ a. confirming_with C ok (m ∷ a)) (confirming_with C ok) ms (λ a x r q. rw (e, z)),
          z,
          and_true (confirming C m),
        )

-- the stretch since the last failed result since L
abbrev pub newest : History → List Moment
newest l = since is_failed (since_l l)

-- a test that the empty stretch passes, and a longer stretch only where the shorter does
module _ (C : ℕ) (ok : List Moment → Bool) (empty : ok [] ≡ true)
    (mono : (m : Moment) (s : List Moment) → ok (m ∷ s) ≡ ok (m ∷ s) && ok s) where
  pub standing_newest : (l : History) → standing C ok l ≡ standing C ok l && ok (newest l)
  unfolding standing
  standing_newest l = with_newest C ok (since_l l)

  pub standing_failed : (l : History) → standing C ok (failed ∷ l) ≡ confirming C (moment failed l) || standing C ok l
  unfolding standing since_l moments
  standing_failed l = with_failed C ok (moment failed l) (since_l l) refl empty

  pub standing_stop : (l : History) → standing C ok (stop ∷ l) ≡ standing C ok l && ok (moment stop l ∷ newest l)
  unfolding standing since_l moments
  standing_stop l = with_other C ok (moment stop l) (since_l l) refl (mono _)

  -- a passed result and a start, which no stretch counts
  pub standing_passed : (l : History) → ((s : List Moment) → ok (moment passed l ∷ s) ≡ ok s)
      → standing C ok (passed ∷ l) ≡ standing C ok l
  unfolding standing since_l moments
  standing_passed l still =
      with_other C ok (moment passed l) (since_l l) refl (mono _) ∙ rw (still (newest l)) (sym (standing_newest l))

  pub standing_start : (l : History) → ((s : List Moment) → ok (moment start l ∷ s) ≡ ok s)
      → standing C ok (start ∷ l) ≡ standing C ok l
  unfolding standing since_l moments
  standing_start l still =
      with_other C ok (moment start l) (since_l l) refl (mono _) ∙ rw (still (newest l)) (sym (standing_newest l))
