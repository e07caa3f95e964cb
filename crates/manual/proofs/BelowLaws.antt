-- Laws of the words on the numbers below n: how many pass, and their lists one after the other.
use mathlib.Core.Path.{◌≡◌, refl, sym, ap, ◌∙◌}
use mathlib.Core.Logic.{⊎_elim}
use mathlib.Core.Bool.{Bool, cond}
use mathlib.Core.List.{List, [], ◌++◌}
use Prim.Native.Nat.{ℕ, zero, suc, ◌+◌, ◌*◌, ◌≤◌, ◌<◌}
use native.Mathlib.Nat.{eq-or-lt_of_le, le_of_suc-le-suc, not-suc-le-zero}
use native.Mathlib.Numerals.{add-one}
use native.Mathlib.Omega.{arith}
use lib.ListN.{length, length-append}
use Rattle.manual.specs.Words.{count_below, join_below}
use Rattle.manual.specs.Replies.{rising}
use Rattle.manual.proofs.WordsLaws.{those_le}
use Rattle.manual.proofs.RepliesLaws.{count_is, join_is, rising_length, flat_length}

-- ---- how many pass

module _ (f : ℕ → Bool) where
  pub count_none : count_below 0 f ≡ 0
  unfolding count_below
  count_none = refl

  pub count_more : (n : ℕ) → count_below (n + 1) f ≡ cond (f n) (count_below n f + 1) (count_below n f)
  unfolding count_below
  count_more n = rw (add-one, add-one)

  pub count_most : (n : ℕ) → count_below n f ≤ n
  count_most n = omega (arith, count_is f n, those_le f (rising n), rising_length n)

-- ---- their lists one after the other

module _ (f : ℕ → List ℕ) where
  pub join_none : join_below 0 f ≡ []
  unfolding join_below
  join_none = refl

  pub join_more : (n : ℕ) → join_below (n + 1) f ≡ join_below n f ++ f n
  unfolding join_below
  join_more n = rw add-one

  -- where there is room for all lists, there is for the list of e behind those before it
  pub join_within : (n e : ℕ) → e < n → length (join_below e f) + length (f e) ≤ length (join_below n f)
  unfolding join_below
  join_within zero e h = absurd (not-suc-le-zero h)
  join_within (suc n) e h =
      rw length-append
      (⊎_elim (λ q. rw q (omega arith)) (λ l. let i = join_within n e l in omega arith)
      (eq-or-lt_of_le (le_of_suc-le-suc h)))

  -- those of the numbers that pass, if they are of one length
  pub join_length : (p : ℕ → Bool) (w : ℕ) → ((e : ℕ) → length (f e) ≡ w)
      → (n : ℕ) → length (join_below n (λ e. cond (p e) (f e) [])) ≡ w * count_below n p
  join_length p w each n =
      ap length (join_is p f n) ∙ flat_length f w each _ ∙ ap (λ (k : ℕ). w * k) (sym (count_is p n))
