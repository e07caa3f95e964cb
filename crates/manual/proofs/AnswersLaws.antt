-- Laws of specs/Answers.antt: what an accepted call tells, and what a refused one leaves.
use mathlib.Core.Path.{◌≡◌, refl, sym, ◌∙◌}
use mathlib.Core.Logic.{◌≢◌}
use mathlib.Core.Bool.{Bool, true, false, not, ◌&&◌, cond}
use mathlib.Core.List.{List, [], ◌∷◌, ◌++◌}
use Prim.Native.Nat.{ℕ, zero, suc}
use native.Mathlib.Omega.{arith}
use lib.Dec.{eqb, ltb}
use borrow.Author.Tests.{eqb-true, eqb-false, ne_eqb, ltb-true, not-true, not-false}
use Rattle.history.specs.Words.{all_of}
use Rattle.history.proofs.WordsLaws.{and_left, and_right}
use Rattle.manual.specs.declared.Refusal.{Refusal}
use Rattle.manual.specs.declared.Refusal.TheVariants.{BadArgument, BadConfiguration, BadState, NoSuch}
use Rattle.manual.specs.declared.Refusal.TheVariants.{WrongCycleState, NoPreResult, RoomTooSmall, BadImage}
use Rattle.manual.specs.declared.Refusal.TheVariants.{WrongFrame, NoEntry, MissingCondition, CountsFull}
use Rattle.manual.specs.State.{State}
use Rattle.manual.specs.Answers.{Beside, Outcome, refused, Rule, first_that_applies, judged, number_of}

-- no refusal has the number 0, which means done
pub never_done : (r : Refusal) → number_of r ≢ 0
never_done BadArgument e = omega arith
never_done BadConfiguration e = omega arith
never_done BadState e = omega arith
never_done NoSuch e = omega arith
never_done WrongCycleState e = omega arith
never_done NoPreResult e = omega arith
never_done RoomTooSmall e = omega arith
never_done BadImage e = omega arith
never_done WrongFrame e = omega arith
never_done NoEntry e = omega arith
never_done MissingCondition e = omega arith
never_done CountsFull e = omega arith

-- the test of rule i
abbrev pub applies_at : List Rule → ℕ → Bool
applies_at [] i = false
applies_at (r ∷ rs) zero = r.applies
applies_at (r ∷ rs) (suc i) = applies_at rs i

-- no number of the list is 0, which means done
abbrev pub numbered : List Rule → Bool
numbered [] = true
numbered (r ∷ rs) = ltb 0 r.number && numbered rs

-- where 0 is answered, no rule applies
pub none_applies : (rules : List Rule) → first_that_applies rules ≡ 0 → numbered rules ≡ true → (i : ℕ)
    → applies_at rules i ≡ false
unfolding first_that_applies
none_applies [] z n i = refl
none_applies (r ∷ rs) z n i =
    go r.applies refl z i (λ t. none_applies rs t (and_right (ltb 0 r.number) (numbered rs) n))
  where
    go : (b : Bool) → r.applies ≡ b → cond b r.number (first_that_applies rs) ≡ 0 → (i : ℕ)
        → (first_that_applies rs ≡ 0 → (i : ℕ) → applies_at rs i ≡ false) → applies_at (r ∷ rs) i ≡ false
    go true q t i ih =
        absurd
        (let h = ltb-true 0 r.number (and_left (ltb 0 r.number) (numbered rs) n) in let w : ⊥ = omega arith in w)
    go false q t zero ih = q
    go false q t (suc i) ih = ih t i

-- refusal 3 does not apply: what is lent beside the state has its length, and the state is in order
pub three_passed : (fits formed : Bool) → not (fits && formed) ≡ false → (fits ≡ true) × (formed ≡ true)
three_passed fits formed e =
    let h = not-false (fits && formed) e in (and_left fits formed h, and_right fits formed h)

-- a number that no rule of the list has is not answered
abbrev pub lacks : ℕ → List Rule → Bool
lacks k rules = all_of (λ r. not (eqb r.number k)) rules

pub never_given : (k : ℕ) → k ≢ 0 → (rules : List Rule) → lacks k rules ≡ true → first_that_applies rules ≢ k
unfolding first_that_applies
never_given k n [] l q = n (sym q)
never_given k n (r ∷ rs) l q =
    go r.applies q (never_given k n rs (and_right (not (eqb r.number k)) (lacks k rs) l))
  where
    go : (b : Bool) → cond b r.number (first_that_applies rs) ≡ k → (first_that_applies rs ≢ k) → ⊥
    go true e ih =
        eqb-false r.number k (not-true (eqb r.number k) (and_left (not (eqb r.number k)) (lacks k rs) l)) e
    go false e ih = ih e

-- the first of some rules, and then of more
pub first_of_both : (a b : List Rule) → numbered a ≡ true
    → first_that_applies (a ++ b) ≡ cond (eqb (first_that_applies a) 0) (first_that_applies b) (first_that_applies a)
unfolding first_that_applies
first_of_both [] b n = refl
first_of_both (r ∷ rs) b n = go r.applies (first_of_both rs b (and_right (ltb 0 r.number) (numbered rs) n))
  where
    above : eqb r.number 0 ≡ false
    above =
        let h = ltb-true 0 r.number (and_left (ltb 0 r.number) (numbered rs) n) in
        ne_eqb _ _ (λ (z : r.number ≡ 0). let w : ⊥ = omega arith in w)

    go : (t : Bool)
        → first_that_applies (rs ++ b) ≡ cond (eqb (first_that_applies rs) 0) (first_that_applies b) (first_that_applies rs)
        → cond t r.number (first_that_applies (rs ++ b))
        ≡ cond (eqb (cond t r.number (first_that_applies rs)) 0) (first_that_applies b)
        (cond t r.number (first_that_applies rs))
    go true ih = rw above
    go false ih = ih

module _ (rules : List Rule) (b : Beside) (s : State) (o : Outcome) where
  -- an accepted call has the outcome that its definition gives it
  pub accepted : (judged rules b s o).answer ≡ 0 → (first_that_applies rules ≡ 0) × (judged rules b s o ≡ o)
  unfolding judged
  accepted = go (eqb (first_that_applies rules) 0) refl
    where
      go : (t : Bool) → eqb (first_that_applies rules) 0 ≡ t → (cond t o (refused (first_that_applies rules) b s)).answer ≡ 0
          → (first_that_applies rules ≡ 0) × (cond t o (refused (first_that_applies rules) b s) ≡ o)
      go true e z = (eqb-true (first_that_applies rules) 0 e, refl)
      go false e z = absurd (eqb-false (first_that_applies rules) 0 e z)

  pub goes_through : first_that_applies rules ≡ 0 → judged rules b s o ≡ o
  unfolding judged
  goes_through z = rw z

  -- a refused call leaves all as found
  pub left_alone : o.answer ≡ 0 → (judged rules b s o).answer ≢ 0
      → judged rules b s o ≡ refused (first_that_applies rules) b s
  unfolding judged
  left_alone z = go (eqb (first_that_applies rules) 0)
    where
      go : (t : Bool) → (cond t o (refused (first_that_applies rules) b s)).answer ≢ 0
          → cond t o (refused (first_that_applies rules) b s) ≡ refused (first_that_applies rules) b s
      go true n = absurd (n z)
      go false n = refl

  -- a call that stops with the number that its rules give
  pub stops_with : (r : Refusal) → number_of r ≡ first_that_applies rules → refused (number_of r) b s ≡ judged rules b s o
  unfolding judged
  stops_with r e = let n : eqb (first_that_applies rules) 0 ≡ false = ne_eqb _ _ (λ z. never_done r (e ∙ z)) in rw (n, e)
