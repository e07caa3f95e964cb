-- Laws of how a call begins: "Every call begins 2, 3."
use mathlib.Core.Path.{◌≡◌, refl, sym, ap, ◌∙◌}
use mathlib.Core.Bool.{Bool, true, false, ◌&&◌, cond}
use mathlib.Core.List.{List, []}
use Prim.Native.Nat.{ℕ}
use native.Mathlib.Omega.{arith}
use lib.Dec.{eqb}
use Rattle.manual.specs.declared.Refusal.{Refusal}
use Rattle.manual.specs.Configuration.{Configuration, config_ok}
use Rattle.manual.specs.State.{State}
use Rattle.manual.specs.WellFormed.{lengths_fit, well_formed}
use Rattle.manual.specs.Answers.{Rule, first_that_applies, number_of}
use Rattle.manual.specs.Calls.{begins, begins_with_lengths}
use Rattle.manual.proofs.AnswersLaws.{never_done}
use Rattle.judgement.specs.Checks.{two_three}

-- ---- two tests, 2 and 3, and what follows them

abbrev head : Bool → Bool → ℕ
head a b = first_that_applies (two_three a b [])

-- 3 need not be judged where 2 applies
pub judged_in_turn : {a p : Bool} (fits b q : Bool) → a ≡ p → b ≡ a && q → head a (fits && b) ≡ head p (fits && q)
unfolding first_that_applies
judged_in_turn {a} fits b q e f =
    ap (λ (x : Bool). head a (fits && x)) f ∙ go a ∙ ap (λ (x : Bool). head x (fits && q)) e
  where
    go : (a : Bool) → head a (fits && (a && q)) ≡ head a (fits && q)
    go true = refl
    go false = refl

first_of : (a b : Bool) (rules : List Rule)
    → first_that_applies (two_three a b rules) ≡ cond (eqb (head a b) 0) (first_that_applies rules) (head a b)
unfolding first_that_applies
first_of true true rules = refl
first_of true false rules = refl
first_of false b rules = refl

both_hold : (a b : Bool) → head a b ≡ 0 → (a ≡ true) × (b ≡ true)
unfolding first_that_applies
both_hold true true e = (refl, refl)
both_hold true false e = absurd (let w : ⊥ = omega arith in w)
both_hold false b e = absurd (let w : ⊥ = omega arith in w)

goes_on : (a b : Bool) (rules : List Rule) → head a b ≡ 0
    → first_that_applies (two_three a b rules) ≡ first_that_applies rules
goes_on a b rules e = first_of a b rules ∙ rw e

stops : (a b : Bool) (rules : List Rule) (r : Refusal) → number_of r ≡ head a b
    → first_that_applies (two_three a b rules) ≡ number_of r
unfolding first_that_applies
stops true true rules r e = absurd (never_done r e)
stops true false rules r e = sym e
stops false b rules r e = sym e

-- ---- a call's judge is the beginning, then its own tests

module _ (cfg : Configuration) (s : State) (fits : Bool) where
  -- what a check that goes on gives
  pub begun : first_that_applies (begins cfg s fits []) ≡ 0 → (config_ok cfg ≡ true) × (fits && well_formed cfg s ≡ true)
  begun e = both_hold (config_ok cfg) (fits && well_formed cfg s) e

  pub after_go : (rules : List Rule) → first_that_applies (begins cfg s fits []) ≡ 0
      → first_that_applies (begins cfg s fits rules) ≡ first_that_applies rules
  after_go rules e = goes_on (config_ok cfg) (fits && well_formed cfg s) rules e

  -- what one that stops gives
  pub after_stop : (rules : List Rule) (r : Refusal) → number_of r ≡ first_that_applies (begins cfg s fits [])
      → first_that_applies (begins cfg s fits rules) ≡ number_of r
  after_stop rules r e = stops (config_ok cfg) (fits && well_formed cfg s) rules r e

  -- the same for restore and for making a fresh state
  pub begun_with_lengths : first_that_applies (begins_with_lengths cfg s fits []) ≡ 0
      → (config_ok cfg ≡ true) × (fits && lengths_fit cfg s ≡ true)
  begun_with_lengths e = both_hold (config_ok cfg) (fits && lengths_fit cfg s) e

  pub after_lengths_go : (rules : List Rule) → first_that_applies (begins_with_lengths cfg s fits []) ≡ 0
      → first_that_applies (begins_with_lengths cfg s fits rules) ≡ first_that_applies rules
  after_lengths_go rules e = goes_on (config_ok cfg) (fits && lengths_fit cfg s) rules e

  pub after_lengths_stop : (rules : List Rule) (r : Refusal)
      → number_of r ≡ first_that_applies (begins_with_lengths cfg s fits [])
      → first_that_applies (begins_with_lengths cfg s fits rules) ≡ number_of r
  after_lengths_stop rules r e = stops (config_ok cfg) (fits && lengths_fit cfg s) rules r e
