-- What report and tick share: the counts' length is judged with 3, 12 is judged last, and where neither applies the
-- counts may rise.
use mathlib.Core.Path.{◌≡◌, sym, ap, ◌∙◌}
use mathlib.Core.Bool.{Bool, false}
use mathlib.Core.List.{List, [], ◌∷◌}
use Prim.Native.Nat.{ℕ, ◌≤◌}
use Rattle.history.proofs.WordsLaws.{and_left, and_right}
use Rattle.std.specs.Prelude.{Result, Ok, Err, ⊤}
use Rattle.manual.specs.declared.Refusal.{Refusal}
use Rattle.manual.specs.declared.Rise.{Rise}
use Rattle.manual.specs.Configuration.{Configuration, most_events}
use Rattle.manual.specs.State.{State}
use Rattle.manual.specs.WellFormed.{well_formed}
use Rattle.manual.specs.Answers.{Rule, ◌if◌, first_that_applies, number_of}
use Rattle.manual.specs.Counts.{Happening, rise_of, numbers, raised, past, carries_past, counts_fit}
use Rattle.manual.specs.Calls.{begins}
use Rattle.manual.proofs.CountsLaws.{AtMost}
use Rattle.counts.specs.Near.{AreFive, some_near}
use Rattle.counts.proofs.NearLaws.{are_five, far_from_past}
use Rattle.judgement.specs.Checks.{check_number}
use Rattle.judgement.proofs.BeginLaws.{begun}
use Rattle.judgement.proofs.JudgedLaws.{judged_by, stopped_by}
use Rattle.reporting.specs.Accepted.{Begun}
use Rattle.reporting.specs.Tests.{limit_test}

-- "A slice of another length is 3."
module _ (cfg : Configuration) (s : State) (counts : List ℕ) {fits : Bool} (q : fits ≡ counts_fit counts) where
  begins_by : {number : ℕ} → number ≡ first_that_applies (begins cfg s fits [])
      → number ≡ first_that_applies (begins cfg s (counts_fit counts) [])
  begins_by p = p ∙ ap (λ (fits : Bool). first_that_applies (begins cfg s fits [])) q

  module _ {check : Result ⊤ Refusal} (p : check_number check ≡ first_that_applies (begins cfg s fits [])) where
    pub has_begun : check ≡ Ok tt → Begun cfg s counts
    has_begun g =
        let b = begun cfg s (counts_fit counts) (sym (begins_by p) ∙ ap check_number g) in
        record {
          configured = b.0;
          formed = and_right (counts_fit counts) (well_formed cfg s) b.1;
          five = are_five counts (and_left (counts_fit counts) (well_formed cfg s) b.1);
        }

    module _ (rules : List Rule) where
      pub judged_counted : check ≡ Ok tt → {number : ℕ} → number ≡ first_that_applies rules
          → number ≡ first_that_applies (begins cfg s (counts_fit counts) rules)
      judged_counted = judged_by cfg s (counts_fit counts) (begins_by p) rules

      pub stopped_counted : (r : Refusal) → check ≡ Err r
          → number_of r ≡ first_that_applies (begins cfg s (counts_fit counts) rules)
      stopped_counted = stopped_by cfg s (counts_fit counts) (begins_by p) rules

module _ (log : List Happening) (counts : List ℕ) where
  -- where no count is near its limit, what at most 512 events add carries none past it
  pub all_far : (n : ℕ) → n ≤ most_events → AtMost n (rise_of log) → {near : Bool} → near ≡ some_near counts
      → near ≡ false → false ≡ carries_past log counts
  all_far n q p e h = sym (far_from_past n (rise_of log) counts q p (sym e ∙ h))

  -- "refused with new number 12, checked last"
  pub limit_judged : {carries : Bool} {number : ℕ} → number ≡ first_that_applies ((12 if carries) ∷ [])
      → carries ≡ carries_past log counts → number ≡ first_that_applies (limit_test log counts)
  limit_judged p q = p ∙ ap (λ (carries : Bool). first_that_applies ((12 if carries) ∷ [])) q

  -- by the rise that the work answers
  module _ (rise : Rise) (p : numbers rise ≡ rise_of log) where
    pub past_by : {r : Bool} → r ≡ past (raised (numbers rise) counts) → r ≡ carries_past log counts
    past_by q = q ∙ ap (λ (l : List ℕ). past (raised l counts)) p

    pub may_raise : AreFive counts × (carries_past log counts ≡ false)
        → AreFive counts × (past (raised (numbers rise) counts) ≡ false)
    may_raise f = (f.0, ap (λ (l : List ℕ). past (raised l counts)) p ∙ f.1)

    pub raised_by : {counts' : List ℕ} → counts' ≡ raised (numbers rise) counts → counts' ≡ raised (rise_of log) counts
    raised_by q = q ∙ ap (λ (l : List ℕ). raised l counts) p
