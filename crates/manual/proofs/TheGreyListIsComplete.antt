-- Document 02, W10, "List the grey events in rising order, complete": each number of the list is an event below n whose
-- paint is grey, every such event is in the list, and each number is smaller than all that stand behind it.
use mathlib.Core.Path.{◌≡◌, refl}
use mathlib.Core.Logic.{⊎_elim}
use mathlib.Core.Bool.{Bool, true, false, cond}
use mathlib.Core.List.Memᴰ
use mathlib.Core.List.{List, [], ◌∷◌, ◌++◌, Memᴰ}
use Prim.Native.Nat.{ℕ, zero, suc, ◌<◌}
use native.Mathlib.Nat.{eq-or-lt_of_le, le_of_suc-le-suc, not-suc-le-zero}
use native.Mathlib.Omega.{arith}
use Rattle.history.specs.StatusByte.{test_failed}
use Rattle.manual.specs.declared.Paint.TheVariants.{Grey, Red, Live}
use Rattle.manual.specs.Words.{All, those}
use Rattle.manual.specs.Configuration.{Configuration, events}
use Rattle.manual.specs.State.{State, record_of}
use Rattle.manual.specs.Replies.{rising}
use Rattle.manual.specs.Untested.{is_grey, paint_of, grey_events}
use Rattle.manual.proofs.WordsLaws.{all_map, all_append, all_those, mem_those}

-- ---- the numbers below n

-- each is smaller than all that stand behind it
abbrev pub Rises : List ℕ → Type 0
Rises [] = Unit {0}
Rises (x ∷ xs) = All (λ y. x < y) xs × Rises xs

all_below_n : (n : ℕ) → All (λ e. e < n) (rising n)
unfolding rising
all_below_n zero = tt
all_below_n (suc n) =
    all_append _ (rising n) _ (all_map _ _ (λ e h. omega (arith, h)) (rising n) (all_below_n n)) (omega arith, tt)

every_below_n : (n e : ℕ) → e < n → Memᴰ e (rising n)
unfolding rising
every_below_n zero e h = absurd (not-suc-le-zero h)
every_below_n (suc n) e h =
    ⊎_elim (λ q. Memᴰ.append_right (rising n) (Memᴰ.head q)) (λ l. Memᴰ.append_left _ (every_below_n n e l))
    (eq-or-lt_of_le (le_of_suc-le-suc h))

rises_on : (xs : List ℕ) (n : ℕ) → Rises xs → All (λ x. x < n) xs → Rises (xs ++ (n ∷ []))
rises_on [] n r b = (tt, tt)
rises_on (x ∷ xs) n r b = (all_append _ xs _ r.0 (b.0, tt), rises_on xs n r.1 b.1)

rising_rises : (n : ℕ) → Rises (rising n)
unfolding rising
rising_rises zero = tt
rising_rises (suc n) = rises_on (rising n) n (rising_rises n) (all_below_n n)

those_rise : (p : ℕ → Bool) (xs : List ℕ) → Rises xs → Rises (those p xs)
unfolding those
those_rise p [] r = tt
those_rise p (x ∷ xs) r = go (p x) (those_rise p xs r.1)
  where
    go : (b : Bool) → Rises (those p xs) → Rises (cond b (x ∷ those p xs) (those p xs))
    go true ih = (all_those _ _ p (λ y t h. h) xs r.0, ih)
    go false ih = ih

-- ---- the list

module _ (cfg : Configuration) (s : State) where
  grey_painted : (e : ℕ) → is_grey cfg s e ≡ true → paint_of cfg s e ≡ Grey
  unfolding paint_of
  grey_painted e g = rw g

  painted_grey : (e : ℕ) → paint_of cfg s e ≡ Grey → is_grey cfg s e ≡ true
  unfolding paint_of
  painted_grey e q = go (is_grey cfg s e) ((record_of s e).status test_failed) q
    where
      go : (g f : Bool) → cond g Grey (cond f Red Live) ≡ Grey → g ≡ true
      go true f q = refl
      go false true q = absurd (let z : ◌≡◌ {A = ℕ} 0 1 = cc in omega arith)
      go false false q = absurd (let z : ◌≡◌ {A = ℕ} 0 1 = cc in omega arith)

  pub listed_are_grey : All (λ e. (e < events cfg) × (paint_of cfg s e ≡ Grey)) (grey_events cfg s)
  unfolding grey_events
  listed_are_grey =
      all_those _ _ (is_grey cfg s) (λ e g h. (h, grey_painted e g)) (rising (events cfg)) (all_below_n (events cfg))

  pub grey_are_listed : (e : ℕ) → e < events cfg → paint_of cfg s e ≡ Grey → Memᴰ e (grey_events cfg s)
  unfolding grey_events
  grey_are_listed e h q = mem_those (is_grey cfg s) _ e (painted_grey e q) (every_below_n (events cfg) e h)

  pub list_rises : Rises (grey_events cfg s)
  unfolding grey_events
  list_rises = those_rise (is_grey cfg s) _ (rising_rises (events cfg))
