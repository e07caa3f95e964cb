-- What a report finds where its tests pass, and what it leaves.
use mathlib.Core.Path.{◌≡◌, refl, ap, ◌∙◌}
use mathlib.Core.Bool.{true, false}
use mathlib.Core.List.{List, []}
use Prim.Native.Nat.{ℕ}
use lib.ListN.{length}
use borrow.Author.Tests.{eqb-true, leb-false, not-false}
use Rattle.manual.specs.declared.Rise.{Rise}
use Rattle.manual.specs.declared.StoreAnswer.{StoreAnswer}
use Rattle.manual.specs.declared.Verdict.{Verdict}
use Rattle.manual.specs.Configuration.{Configuration, events, frame_bytes}
use Rattle.manual.specs.State.{State}
use Rattle.manual.specs.WellFormed.{well_formed}
use Rattle.manual.specs.Answers.{Beside, lent_counts, alone, Outcome, first_that_applies, answered, leaves}
use Rattle.manual.specs.Counts.{of_store, rise_of, numbers, raised, carries_past, counts_fit}
use Rattle.manual.specs.Calls.{report_log, report_rules, report_done}
use Rattle.manual.proofs.AnswersLaws.{none_applies, three_passed}
use Rattle.manual.proofs.EventLoops.{ready_at_once}
use Rattle.counts.specs.Near.{AreFive}
use Rattle.counts.proofs.NearLaws.{are_five}
use Rattle.one_event.specs.Ready.{accepts, Ready}
use Rattle.one_event.specs.Steps.{Stepped, stepped, reporting}
use Rattle.one_event.proofs.ReadyLaws.{ready_of}
use Rattle.reporting.specs.Accepted.{Begun, MayReport}
use Rattle.reporting.specs.Tests.{report_tests}

module _ (cfg : Configuration) (s : State) (e : ℕ) (frame : List ℕ) where
  -- the event as a step on it needs it, and a frame of F bytes
  pub report_ready : MayReport cfg s e frame → Ready cfg s e × (length frame ≡ frame_bytes cfg)
  report_ready m = (
    ready_of cfg s m.configured e m.below (ready_at_once cfg s m.formed e m.below),
    m.frame_fits,
  )

  module _ (code : ℕ) where
    pub may_report : (present : ℕ) {counts : List ℕ} → Begun cfg s counts
        → first_that_applies (report_tests cfg s.board e code frame present) ≡ 0 → MayReport cfg s e frame
    may_report present b z = record {
      configured = b.configured;
      formed = b.formed;
      below = leb-false (events cfg) e (none_applies _ z refl 0);
      frame_fits = eqb-true _ _ (not-false _ (none_applies _ z refl 3));
    }

    module _ (present : ℕ) (counts : List ℕ)
        (z : first_that_applies (report_rules cfg e code frame present (lent_counts counts) s) ≡ 0) where
      three : (counts_fit counts ≡ true) × (well_formed cfg s ≡ true)
      unfolding report_rules
      three = three_passed (counts_fit counts) (well_formed cfg s) (none_applies _ z refl 1)

      pub report_passed_lem : MayReport cfg s e frame
      unfolding report_rules
      report_passed_lem = record {
        configured = not-false _ (none_applies _ z refl 0);
        formed = three.1;
        below = leb-false (events cfg) e (none_applies _ z refl 2);
        frame_fits = eqb-true _ _ (not-false _ (none_applies _ z refl 5));
      }

      pub report_counts : AreFive counts × (carries_past (report_log cfg e code frame s) counts ≡ false)
      unfolding report_rules
      report_counts = (are_five counts three.0, none_applies _ z refl 8)

    -- what memory did is what is logged
    pub report_rise : {o : Outcome} {did : StoreAnswer} {rise : Rise}
        → stepped o did ≡ reporting cfg frame e code s
        → ((e : ℕ) → numbers rise ≡ rise_of (of_store e did))
        → numbers rise ≡ rise_of (report_log cfg e code frame s)
    unfolding report_log
    report_rise p r = r e ∙ ap (λ (x : Stepped Outcome). rise_of (of_store e x.did)) p

    -- the counts stand beside what the report does to the state
    pub report_left : {verdict : Verdict} {t : State} (counts : List ℕ) {counts' : List ℕ}
        → accepts verdict t ≡ report_done cfg e code frame alone s
        → counts' ≡ raised (rise_of (report_log cfg e code frame s)) counts
        → leaves (answered 0 verdict 0) [] (lent_counts counts') t ≡ report_done cfg e code frame (lent_counts counts) s
    report_left counts p q =
        λ i. leaves (answered (p i).answer (p i).verdict (p i).value) (p i).part (lent_counts (q i)) (p i).state

-- what is judged of the state as it is read is judged of the state
pub report_read : (cfg : Configuration) (e code : ℕ) (frame : List ℕ) (present : ℕ) (b : Beside) {s s' : State} {number : ℕ}
    → s' ≡ s
    → number ≡ first_that_applies (report_rules cfg e code frame present b s')
    → number ≡ first_that_applies (report_rules cfg e code frame present b s)
report_read cfg e code frame present b p q =
    q ∙ ap (λ (t : State). first_that_applies (report_rules cfg e code frame present b t)) p
