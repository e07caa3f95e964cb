-- Laws of the start and the stop of a cycle: what a passed judgement gives.
use mathlib.Core.Path.{◌≡◌, refl, sym, ap, ◌∙◌}
use mathlib.Core.Bool.{Bool, true}
use Prim.Native.Nat.{ℕ, ◌<◌}
use native.Mathlib.Omega.{arith}
use lib.Dec.{ltb}
use borrow.Author.Tests.{ltb-false, not-false}
use Rattle.history.specs.History.{start}
use Rattle.manual.specs.declared.Refusal.{Refusal}
use Rattle.manual.specs.Words.{for_below}
use Rattle.manual.specs.Configuration.{Configuration, events, config_ok}
use Rattle.manual.specs.State.{State, runs, with_cycle}
use Rattle.manual.specs.WellFormed.{well_formed}
use Rattle.manual.specs.OneEvent.{happens, stops, for_those}
use Rattle.manual.specs.Answers.{alone, refused, done, first_that_applies, number_of}
use Rattle.manual.specs.Calls.{begins, of_cycle, start_rules, start_cycle}
use Rattle.manual.proofs.AnswersLaws.{none_applies, three_passed, goes_through, stops_with}
use Rattle.manual.proofs.ConfigurationLaws.{config_tells}
use Rattle.manual.proofs.WellFormedLaws.{state_tells}
use Rattle.manual.proofs.StaysWellFormed.{stops_keep}
use Rattle.judgement.specs.Fits.{RecordsFor}
use Rattle.one_event.specs.Ready.{EventFits}
use Rattle.cycles.specs.Cycles.{four_five, MayStop}
use Rattle.one_event.proofs.TurnsLaws.{turn, ready_at_turn}

-- ---- what a passed judgement gives

module _ (cfg : Configuration) (s : State) (c : ℕ) (fits wrong : Bool)
    (z : first_that_applies (begins cfg s fits (four_five (ltb 3 c) wrong)) ≡ 0) where
  pub may_stop : MayStop cfg s c
  may_stop = record {
    configured = not-false (config_ok cfg) (none_applies _ z refl 0);
    formed = (three_passed fits (well_formed cfg s) (none_applies _ z refl 1)).1;
    is_cycle = let h = ltb-false 3 c (none_applies _ z refl 2) in omega arith;
  }

  -- what is lent beside the state has its length
  pub is_fit : fits ≡ true
  is_fit = (three_passed fits (well_formed cfg s) (none_applies _ z refl 1)).0

-- ---- the call that starts a cycle

module _ (cfg : Configuration) (s : State) (c : ℕ) where
  -- the judge reads the state as it is lent
  pub start_read : {found : State} → found ≡ s → {wrong : Bool} → wrong ≡ runs s.board c → {number : ℕ}
      → number ≡ first_that_applies (begins cfg found true (four_five (ltb 3 c) wrong))
      → number ≡ first_that_applies (start_rules cfg c s)
  unfolding start_rules
  start_read same w e = e ∙ (λ i. first_that_applies (begins cfg (same i) true (four_five (ltb 3 c) (w i))))

  pub start_refused : (r : Refusal) → number_of r ≡ first_that_applies (start_rules cfg c s)
      → refused (number_of r) alone s ≡ start_cycle cfg c alone s
  unfolding start_cycle
  start_refused r e = stops_with _ _ _ _ r e

  module _ (go : 0 ≡ first_that_applies (start_rules cfg c s)) where
    pub may_start : RecordsFor cfg s.records × (c < 4)
    unfolding start_rules
    may_start =
        let m = may_stop cfg s c true (runs s.board c) (sym go) in
        (record { accepted = m.configured; as_long = (state_tells cfg s m.formed).lengths.records }, m.is_cycle)

    pub start_done : {t : State} → t ≡ with_cycle c true (for_those cfg (of_cycle cfg c) (happens cfg start) s)
        → done alone t ≡ start_cycle cfg c alone s
    unfolding start_cycle
    start_done p = ap (done alone) p ∙ sym (goes_through _ _ _ _ (sym go))

-- ---- the events

pub stop_fits : (cfg : Configuration) (s : State) (c : ℕ) → MayStop cfg s c → (i : ℕ) {t : State} → i < events cfg
    → t ≡ for_below i (turn (of_cycle cfg c) (stops cfg)) s
    → EventFits cfg t i
stop_fits cfg s c m i h q =
    (ready_at_turn (of_cycle cfg c) (stops cfg) cfg s (stops_keep cfg (config_tells cfg m.configured) c s)
    m.configured m.formed i h q).event
