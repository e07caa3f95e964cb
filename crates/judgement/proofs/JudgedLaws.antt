-- Laws of a call that is judged, and then accepted or refused.
use mathlib.Core.Path.{◌≡◌, sym, ap, ◌∙◌}
use mathlib.Core.Bool.{Bool, true}
use mathlib.Core.List.{List, []}
use Prim.Native.Nat.{ℕ}
use Rattle.manual.specs.declared.Refusal.{Refusal}
use Rattle.manual.specs.Configuration.{Configuration, config_ok}
use Rattle.manual.specs.State.{State}
use Rattle.manual.specs.Answers.{Beside, Outcome, refused, Rule, first_that_applies, judged, number_of}
use Rattle.manual.specs.Calls.{begins}
use Rattle.manual.proofs.AnswersLaws.{goes_through, stops_with}
use Rattle.std.specs.Prelude.{Result, Ok, Err, ⊤}
use Rattle.judgement.specs.Checks.{check_number}
use Rattle.judgement.proofs.BeginLaws.{begun, after_go, after_stop}

-- ---- the check that a call begins with, and what its judge then answers

module _ (cfg : Configuration) (s : State) (fits : Bool) {check : Result ⊤ Refusal}
    (e : check_number check ≡ first_that_applies (begins cfg s fits [])) where
  pub begun_by_lem : check ≡ Ok tt → config_ok cfg ≡ true
  begun_by_lem g = (begun cfg s fits (sym e ∙ ap check_number g)).0

  pub judged_by : (rules : List Rule) → check ≡ Ok tt → {number : ℕ} → number ≡ first_that_applies rules
      → number ≡ first_that_applies (begins cfg s fits rules)
  judged_by rules g p = p ∙ sym (after_go cfg s fits rules (sym e ∙ ap check_number g))

  pub stopped_by : (rules : List Rule) (r : Refusal) → check ≡ Err r
      → number_of r ≡ first_that_applies (begins cfg s fits rules)
  stopped_by rules r g = sym (after_stop cfg s fits rules r (sym (ap check_number g) ∙ e))

-- ---- the judge's answer, and what the call then leaves

module _ (rules : List Rule) {check : Result ⊤ Refusal} (e : check_number check ≡ first_that_applies rules) where
  pub passed_by : check ≡ Ok tt → first_that_applies rules ≡ 0
  passed_by g = sym e ∙ ap check_number g

  module _ (b : Beside) (s : State) (accepted : Outcome) {o : Outcome} where
    pub accepted_by : check ≡ Ok tt → o ≡ accepted → o ≡ judged rules b s accepted
    accepted_by g p = p ∙ sym (goes_through rules b s accepted (passed_by g))

    pub refused_by : (r : Refusal) → check ≡ Err r → o ≡ refused (number_of r) b s → o ≡ judged rules b s accepted
    refused_by r g p = p ∙ stops_with rules b s accepted r (sym (ap check_number g) ∙ e)
