-- Laws of what a stop adds to the counts: the entries that are gone after it, and whether that carries a count past
-- its limit.
use mathlib.Core.Path.{◌≡◌, refl, sym, ap, ◌∙◌}
use mathlib.Core.Bool.{Bool, true, false, not}
use mathlib.Core.List.{List, [], ◌∷◌}
use Prim.Native.Nat.{ℕ, ◌-◌, ◌≤◌, ◌<◌}
use native.Mathlib.Omega.{arith}
use lib.Dec.{ltb}
use lib.ListN.{length, get_or}
use borrow.Author.Tests.{not-false, ltb-false}
use Rattle.manual.specs.declared.Refusal.{Refusal}
use Rattle.manual.specs.Configuration.{Configuration, events, entry_frames, config_ok, most_places}
use Rattle.manual.specs.State.{State, runs}
use Rattle.manual.specs.Memory.{entry_count, memory_of}
use Rattle.manual.specs.WellFormed.{entries, well_formed}
use Rattle.manual.specs.Answers.{lent_counts, refused, done, Rule, ◌if◌, first_that_applies, number_of}
use Rattle.manual.specs.Counts.{count_of, rise_of, raised, past, carries_past, counts_fit}
use Rattle.manual.specs.Calls.{begins, stop_log, stop_rules, stop_cycle}
use Rattle.manual.proofs.AnswersLaws.{none_applies, three_passed, goes_through, stops_with}
use Rattle.manual.proofs.ConfigurationLaws.{config_tells}
use Rattle.manual.proofs.WellFormedLaws.{state_tells}
use Rattle.manual.proofs.SoundStates.{sound}
use Rattle.manual.proofs.StaysWellFormed.{those_going, stops_keep}
use Rattle.manual.proofs.AccountsLaws.{stop_accounts}
use Rattle.manual.proofs.CountsLaws.{all_accounts, stop_most}
use Rattle.manual.proofs.RiseIsTheEntriesGone.{stop_rise}
use Rattle.memory.proofs.PlacesLaws.{entries_are_count}
use Rattle.counts.specs.Near.{AreFive, some_near}
use Rattle.counts.proofs.NearLaws.{are_five, far_from_past}
use Rattle.std.specs.Prelude.{Ok, Err}
use Rattle.rehearsal.proofs.LastLaws.{last_judged, stopped_before}
use Rattle.cycles.specs.Cycles.{four_five, MayStop, stopped}
use Rattle.cycles.proofs.CyclesLaws.{may_stop, is_fit}

module _ (cfg : Configuration) (s : State) (c : ℕ) (m : MayStop cfg s c) where
  -- ---- the entries that are gone

  -- there is a byte for their number, before and after, and they are few
  pub counted : {found : State} → found ≡ s → 0 < length found.memory
  counted same =
      let long = ap (λ (u : State). length u.memory) same in
      omega (arith, long, (state_tells cfg s m.formed).lengths.memory)

  pub still_counted : {found : State} → found ≡ stopped cfg c s → 0 < length found.memory
  unfolding memory_of
  still_counted same =
      let long = ap (λ (u : State). length u.memory) same in
      let going = those_going cfg (stops_keep cfg (config_tells cfg m.configured) c s) (sound cfg s m.formed) in
      omega (arith, long, ap length going.sound.memory.block)

  pub few : entry_count s.memory ≤ most_places
  few = omega (arith, (state_tells cfg s m.formed).few, (config_tells cfg m.configured).M_most)

  -- none is stored
  no_more : length (entries cfg (stopped cfg c s)) ≤ length (entries cfg s)
  no_more =
      let none : count_of 0 (stop_log cfg c s) ≡ 0 =
      ap (λ (l : List ℕ). get_or l 0 0) (stop_rise cfg m.configured s m.formed c) in
      omega (
        arith,
        none,
        all_accounts (stop_log cfg c s) (entries cfg s) (entries cfg (stopped cfg c s))
            (stop_accounts (λ e. true) cfg m.configured s m.formed c),
      )

  module _ {t : State} (p : t ≡ stopped cfg c s) {before after : ℕ} (b : before ≡ entry_count s.memory)
      (a : after ≡ entry_count t.memory) where
    are_before : before ≡ length (entries cfg s)
    are_before = b ∙ sym (entries_are_count (entry_frames cfg) s.memory)

    are_after : after ≡ length (entries cfg (stopped cfg c s))
    are_after =
        a ∙ sym (entries_are_count (entry_frames cfg) t.memory) ∙ ap (λ (u : State). length (entries cfg u)) p

    pub fewer : after ≤ before
    fewer = omega (arith, no_more, are_before, are_after)

    -- they aged
    pub have_aged : {rise : List ℕ} → rise ≡ 0 ∷ 0 ∷ (before - after) ∷ 0 ∷ 0 ∷ [] → rise ≡ rise_of (stop_log cfg c s)
    have_aged q =
        q ∙ (λ i. 0 ∷ 0 ∷ (are_before i - are_after i) ∷ 0 ∷ 0 ∷ [])
        ∙ sym (stop_rise cfg m.configured s m.formed c)

  -- ---- 12

  -- far from the limit no stop carries a count past it
  pub far : (counts : List ℕ) → some_near counts ≡ false → carries_past (stop_log cfg c s) counts ≡ false
  far counts h =
      far_from_past (events cfg) (rise_of (stop_log cfg c s)) counts (config_tells cfg m.configured).n_most
      (stop_most cfg c s) h

-- ---- the judge of a stop: 2, 3, 4, 5 by the check that a start begins with too, then 12

module _ (cfg : Configuration) (s : State) (c : ℕ) (counts : List ℕ) where
  abbrev before : List Rule
  before = begins cfg s (counts_fit counts) (four_five (ltb 3 c) (not (runs s.board c)))

  abbrev last : List Rule
  last = (12 if carries_past (stop_log cfg c s) counts) ∷ []

  module _ {fits wrong : Bool} (f : fits ≡ counts_fit counts) (w : wrong ≡ not (runs s.board c)) where
    as_judged : {number : ℕ} → number ≡ first_that_applies (begins cfg s fits (four_five (ltb 3 c) wrong))
        → number ≡ first_that_applies before
    as_judged e = e ∙ (λ i. first_that_applies (begins cfg s (f i) (four_five (ltb 3 c) (w i))))

    module _ (go : 0 ≡ first_that_applies (begins cfg s fits (four_five (ltb 3 c) wrong))) where
      pub may_be_limited : MayStop cfg s c × AreFive counts
      may_be_limited =
          let z = sym (as_judged go) in
          (may_stop cfg s c (counts_fit counts) _ z, are_five counts (is_fit cfg s c (counts_fit counts) _ z))

      pub then_limit : {past : Bool} → past ≡ carries_past (stop_log cfg c s) counts → {number : ℕ}
          → number ≡ first_that_applies ((12 if past) ∷ [])
          → number ≡ first_that_applies (stop_rules cfg c (lent_counts counts) s)
      unfolding stop_rules
      then_limit q n =
          last_judged before last refl {check = Ok tt} (as_judged go) refl
          (n ∙ ap (λ (p : Bool). first_that_applies ((12 if p) ∷ [])) q)

    pub not_so_far : (r : Refusal)
        → number_of r ≡ first_that_applies (begins cfg s fits (four_five (ltb 3 c) wrong))
        → number_of r ≡ first_that_applies (stop_rules cfg c (lent_counts counts) s)
    unfolding stop_rules
    not_so_far r e = stopped_before before last refl {check = Err r} (as_judged e) r refl

  -- the judge reads the state as it is lent
  pub stop_read : {found : State} → found ≡ s → {number : ℕ}
      → number ≡ first_that_applies (stop_rules cfg c (lent_counts counts) found)
      → number ≡ first_that_applies (stop_rules cfg c (lent_counts counts) s)
  stop_read same e = e ∙ ap (λ (u : State). first_that_applies (stop_rules cfg c (lent_counts counts) u)) same

  pub stop_refused : (r : Refusal) → number_of r ≡ first_that_applies (stop_rules cfg c (lent_counts counts) s)
      → refused (number_of r) (lent_counts counts) s ≡ stop_cycle cfg c (lent_counts counts) s
  unfolding stop_cycle
  stop_refused r e = stops_with _ _ _ _ r e

-- ---- what a stop that nothing refuses may count on, and what it leaves

module _ (cfg : Configuration) (s : State) (c : ℕ) (counts : List ℕ)
    (go : 0 ≡ first_that_applies (stop_rules cfg c (lent_counts counts) s)) where
  pub accepted : MayStop cfg s c
  unfolding stop_rules
  accepted = record {
    configured = not-false (config_ok cfg) (none_applies _ (sym go) refl 0);
    formed = (three_passed (counts_fit counts) (well_formed cfg s) (none_applies _ (sym go) refl 1)).1;
    is_cycle = let h = ltb-false 3 c (none_applies _ (sym go) refl 2) in omega arith;
  }

  module _ {rise : List ℕ} (p : rise ≡ rise_of (stop_log cfg c s)) where
    pub may_raise : AreFive counts × (past (raised rise counts) ≡ false)
    unfolding stop_rules
    may_raise = (
      are_five counts (three_passed (counts_fit counts) (well_formed cfg s) (none_applies _ (sym go) refl 1)).0,
      ap (λ (l : List ℕ). past (raised l counts)) p ∙ none_applies _ (sym go) refl 4,
    )

    pub stop_done : {t : State} → t ≡ stopped cfg c s → {after : List ℕ} → after ≡ raised rise counts
        → done (lent_counts after) t ≡ stop_cycle cfg c (lent_counts counts) s
    unfolding stop_cycle
    stop_done q r =
        (λ i. done (lent_counts ((r ∙ ap (λ (l : List ℕ). raised l counts) p) i)) (q i))
        ∙ sym (goes_through _ _ _ _ (sym go))
