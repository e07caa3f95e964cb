-- Document 02, W10: "Under condition 3's premises an event is live exactly when its cycle runs, a qualified result lies
-- in the present run after any clear, and its last one is passed." It is red exactly when that last one is failed, and
-- grey exactly when the cycle is stopped or no such result lies there. Of the eight bits only 0 and 6 are read.
use mathlib.Core.Path.{◌≡◌, refl, sym, ap, ◌∙◌}
use mathlib.Core.Logic.{◌⊎◌, inl, inr, ◌↔◌}
use mathlib.Core.Bool.{Bool, true, false, not, ◌||◌, cond}
use Prim.Native.Nat.{ℕ, ◌<◌}
use lib.Dec.{T}
use borrow.Author.Tests.{not-true, lt-leb}
use Rattle.history.specs.StatusByte.{test_failed, test_not_completed_this_operation_cycle}
use Rattle.history.specs.History.{reading}
use Rattle.history.specs.Legal.{running}
use Rattle.history.specs.Untested.{is_tested, IsLive, IsRed, IsGrey}
use Rattle.history.proofs.Truth.{so}
use Rattle.history.proofs.LastResult.{bit6_untested, bit0_last, last_passed}
use Rattle.manual.specs.declared.Paint.{Paint}
use Rattle.manual.specs.declared.Paint.TheVariants.{Grey, Red, Live}
use Rattle.manual.specs.Configuration.{Configuration, events, limits_of}
use Rattle.manual.specs.State.{State, stored_at}
use Rattle.manual.specs.Sequences.{Reached}
use Rattle.manual.specs.Answers.{Beside, first_that_applies, judged}
use Rattle.manual.specs.Untested.{is_grey, paint_of, read_paint_rules, read_paint, paint_read}
use Rattle.manual.proofs.SequencesLaws.{Histories}
use Rattle.manual.proofs.HistoriesAreLegal.{run_goes_on}
use Rattle.manual.proofs.WellFormedInEverySequence.{config_accepted, well_formed_lem}
use Rattle.manual.proofs.ByteIsReadingInEverySequence.{bit_is_reading_in_sequence}

-- ---- the paint by three tests: the cycle runs, a result lies there, the last one is failed

abbrev by_tests : Bool → Bool → Bool → Paint
by_tests runs tested failed = cond (not tested || not runs) Grey (cond failed Red Live)

abbrev paint_is : Bool → Bool → Bool → Paint → Bool
paint_is grey red live Grey = grey
paint_is grey red live Red = red
paint_is grey red live Live = live

live_by : (r t f : Bool) → T (paint_is false false true (by_tests r t f)) → (r ≡ true) × ((t ≡ true) × (f ≡ false))
live_by true true true x = absurd x
live_by true true false x = (refl, (refl, refl))
live_by true false f x = absurd x
live_by false true f x = absurd x
live_by false false f x = absurd x

red_by : (r t f : Bool) → T (paint_is false true false (by_tests r t f)) → (r ≡ true) × ((t ≡ true) × (f ≡ true))
red_by true true true x = (refl, (refl, refl))
red_by true true false x = absurd x
red_by true false f x = absurd x
red_by false true f x = absurd x
red_by false false f x = absurd x

grey_by : (r t f : Bool) → T (paint_is true false false (by_tests r t f)) → (r ≡ false) ⊎ (t ≡ false)
grey_by true true true x = absurd x
grey_by true true false x = absurd x
grey_by true false f x = inr refl
grey_by false t f x = inl refl

by_grey : (r t f : Bool) → (r ≡ false) ⊎ (t ≡ false) → by_tests r t f ≡ Grey
by_grey r true f (inl e) = rw e
by_grey r false f (inl e) = refl
by_grey r t f (inr e) = rw e

module _ (cfg : Configuration) {s : State} {H : Histories} (reached : Reached cfg s H) (e : ℕ) (below : e < events cfg)
  where
    -- bit 0 as it is read off the history
    abbrev last_failed : Bool
    last_failed = reading (limits_of cfg e) (H e) test_failed

    paint_is_lem : paint_of cfg s e ≡ by_tests (running (H e)) (is_tested (H e)) last_failed
    unfolding paint_of is_grey stored_at
    paint_is_lem =
        rw (
          bit_is_reading_in_sequence cfg reached e below test_not_completed_this_operation_cycle,
          bit_is_reading_in_sequence cfg reached e below test_failed,
          bit6_untested (limits_of cfg e) (H e),
          ← run_goes_on cfg reached e below,
        )

    pub live_exactly : (paint_of cfg s e ≡ Live) ↔ IsLive (H e)
    live_exactly = (
      λ q. let is = live_by _ _ _ (so _ (ap (paint_is false false true) (sym paint_is_lem ∙ q))) in
          record {
            cycle_runs = is.0;
            result_lies = is.1.0;
            last_is =
                last_passed (H e) is.1.0
                ∙ ap not (sym (bit0_last (limits_of cfg e) (H e) is.1.0) ∙ is.1.1);
          },
      λ l. let failed : last_failed ≡ false =
          bit0_last (limits_of cfg e) (H e) l.result_lies
          ∙ not-true _ (sym (last_passed (H e) l.result_lies) ∙ l.last_is) in
          paint_is_lem ∙ rw (l.cycle_runs, l.result_lies, failed),
    )

    pub red_exactly : (paint_of cfg s e ≡ Red) ↔ IsRed (H e)
    red_exactly = (
      λ q. let is = red_by _ _ _ (so _ (ap (paint_is false true false) (sym paint_is_lem ∙ q))) in
          record {
            cycle_runs = is.0;
            result_lies = is.1.0;
            last_is = sym (bit0_last (limits_of cfg e) (H e) is.1.0) ∙ is.1.1;
          },
      λ l. let failed : last_failed ≡ true = bit0_last (limits_of cfg e) (H e) l.result_lies ∙ l.last_is in
          paint_is_lem ∙ rw (l.cycle_runs, l.result_lies, failed),
    )

    pub grey_exactly : (paint_of cfg s e ≡ Grey) ↔ IsGrey (H e)
    grey_exactly = (
      λ q. grey_by (running (H e)) (is_tested (H e)) last_failed
          (so _ (ap (paint_is true false false) (sym paint_is_lem ∙ q))),
      λ g. paint_is_lem ∙ by_grey (running (H e)) (is_tested (H e)) last_failed g,
    )

    -- read paint answers this paint: in such a sequence it is not refused
    pub read_paint_tells : (b : Beside) → (paint_read cfg e b s).paint ≡ paint_of cfg s e
    unfolding paint_read read_paint read_paint_rules first_that_applies judged
    read_paint_tells b =
        rw (config_accepted cfg reached, well_formed_lem cfg reached, lt-leb (events cfg) e below)
