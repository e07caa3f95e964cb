-- Laws of what a clear adds to the counts: the entries that are gone after it, and whether that carries a count past
-- its limit.
use mathlib.Core.Path.{◌≡◌, refl, sym, ap, subst, ◌∙◌}
use mathlib.Core.Bool.{Bool, true, false}
use mathlib.Core.List.{List, [], ◌∷◌}
use Prim.Native.Nat.{ℕ, ◌-◌, ◌≤◌}
use native.Mathlib.Omega.{arith}
use lib.ListN.{length, get_or}
use borrow.Author.Tests.{not-false}
use Rattle.manual.specs.declared.Refusal.{Refusal}
use Rattle.manual.specs.Configuration.{Configuration, events, entry_frames, config_ok, most_places}
use Rattle.manual.specs.State.{State}
use Rattle.manual.specs.Memory.{entry_count, memory_of}
use Rattle.manual.specs.WellFormed.{entries, well_formed}
use Rattle.manual.specs.Answers.{lent_counts, done, Rule, ◌if◌, first_that_applies, number_of}
use Rattle.manual.specs.Counts.{count_of, rise_of, raised, past, carries_past, with_rise, counts_fit}
use Rattle.manual.specs.Calls.{begins, unknown_code, cleared, clear_log, clear_rules}
use Rattle.manual.proofs.AnswersLaws.{none_applies, three_passed}
use Rattle.manual.proofs.ConfigurationLaws.{config_tells}
use Rattle.manual.proofs.WellFormedLaws.{state_tells}
use Rattle.manual.proofs.SoundStates.{sound}
use Rattle.manual.proofs.StaysWellFormed.{those_going, clears_keep}
use Rattle.manual.proofs.AccountsLaws.{clear_accounts}
use Rattle.manual.proofs.CountsLaws.{all_accounts, clear_most}
use Rattle.manual.proofs.RiseIsTheEntriesGone.{clear_rise}
use Rattle.memory.proofs.PlacesLaws.{entries_are_count}
use Rattle.counts.specs.Near.{AreFive, some_near}
use Rattle.counts.proofs.NearLaws.{are_five, far_from_past}
use Rattle.std.specs.Prelude.{Result, Ok, Err, ⊤}
use Rattle.judgement.specs.Checks.{check_number}
use Rattle.judgement.proofs.JudgedLaws.{passed_by}
use Rattle.clearing.specs.Covered.{MayClear}
use Rattle.rehearsal.proofs.LastLaws.{last_judged, stopped_before}

module _ (cfg : Configuration) (s : State) (code : ℕ) (m : MayClear cfg s) where
  -- ---- the entries that are gone

  pub few : entry_count s.memory ≤ most_places
  few = omega (arith, (state_tells cfg s m.1).few, (config_tells cfg m.0).M_most)

  -- there still is a byte for the number of entries
  pub still_counted : {t : State} → t ≡ cleared cfg code s → 1 ≤ length t.memory
  unfolding cleared memory_of
  still_counted p =
      let left = (those_going cfg (clears_keep cfg (config_tells cfg m.0) code s) (sound cfg s m.1)).sound.memory.block in
      subst (λ (l : List ℕ). 1 ≤ length l) (sym (ap (λ (u : State). u.memory) p ∙ left)) (omega arith)

  -- none is stored
  no_more : length (entries cfg (cleared cfg code s)) ≤ length (entries cfg s)
  no_more =
      let none : count_of 0 (clear_log cfg code s) ≡ 0 =
      ap (λ (l : List ℕ). get_or l 0 0) (clear_rise cfg m.0 s m.1 code) in
      omega (
        arith,
        none,
        all_accounts (clear_log cfg code s) (entries cfg s) (entries cfg (cleared cfg code s))
            (clear_accounts (λ e. true) cfg m.0 s m.1 code),
      )

  module _ {t : State} (p : t ≡ cleared cfg code s) {before after : ℕ} (b : before ≡ entry_count s.memory)
      (a : after ≡ entry_count t.memory) where
    are_before : before ≡ length (entries cfg s)
    are_before = b ∙ sym (entries_are_count (entry_frames cfg) s.memory)

    are_after : after ≡ length (entries cfg (cleared cfg code s))
    are_after =
        a ∙ sym (entries_are_count (entry_frames cfg) t.memory) ∙ ap (λ (u : State). length (entries cfg u)) p

    pub fewer : after ≤ before
    fewer = omega (arith, no_more, are_before, are_after)

    -- they were cleared
    pub were_cleared : {rise : List ℕ} → rise ≡ 0 ∷ 0 ∷ 0 ∷ (before - after) ∷ 0 ∷ []
        → rise ≡ rise_of (clear_log cfg code s)
    were_cleared q =
        q ∙ (λ i. 0 ∷ 0 ∷ 0 ∷ (are_before i - are_after i) ∷ 0 ∷ []) ∙ sym (clear_rise cfg m.0 s m.1 code)

  -- ---- 12

  -- far from the limit no clear carries a count past it
  pub far : (counts : List ℕ) → some_near counts ≡ false → carries_past (clear_log cfg code s) counts ≡ false
  far counts h =
      far_from_past (events cfg) (rise_of (clear_log cfg code s)) counts (config_tells cfg m.0).n_most
      (clear_most cfg code s) h

-- ---- the judge: 2, 3, 4, then 12

module _ (cfg : Configuration) (s : State) (code : ℕ) (counts : List ℕ) where
  abbrev before : List Rule
  before = begins cfg s (counts_fit counts) ((4 if unknown_code cfg code) ∷ [])

  abbrev last : List Rule
  last = (12 if carries_past (clear_log cfg code s) counts) ∷ []

  module _ {fits : Bool} (f : fits ≡ counts_fit counts) where
    as_found : {number : ℕ} → number ≡ first_that_applies (begins cfg s fits ((4 if unknown_code cfg code) ∷ []))
        → number ≡ first_that_applies before
    as_found e = e ∙ (λ i. first_that_applies (begins cfg s (f i) ((4 if unknown_code cfg code) ∷ [])))

    module _ {check : Result ⊤ Refusal}
        (e : check_number check ≡ first_that_applies (begins cfg s fits ((4 if unknown_code cfg code) ∷ []))) where
      pub may_be_limited : check ≡ Ok tt → MayClear cfg s × AreFive counts
      may_be_limited g =
          let z = passed_by before (as_found e) g in
          let three = three_passed (counts_fit counts) (well_formed cfg s) (none_applies before z refl 1) in
          ((not-false (config_ok cfg) (none_applies before z refl 0), three.1), are_five counts three.0)

      pub then_limit : check ≡ Ok tt → {past : Bool} → past ≡ carries_past (clear_log cfg code s) counts → {number : ℕ}
          → number ≡ first_that_applies ((12 if past) ∷ [])
          → number ≡ first_that_applies (clear_rules cfg code (lent_counts counts) s)
      unfolding clear_rules
      then_limit g q n =
          last_judged before last refl (as_found e) g (n ∙ ap (λ (p : Bool). first_that_applies ((12 if p) ∷ [])) q)

      pub not_so_far : (r : Refusal) → check ≡ Err r
          → number_of r ≡ first_that_applies (clear_rules cfg code (lent_counts counts) s)
      unfolding clear_rules
      not_so_far r g = stopped_before before last refl (as_found e) r g

-- ---- what a clear that nothing refuses may count on, and what it leaves

module _ (cfg : Configuration) (s : State) (code : ℕ) (counts : List ℕ)
    (z : first_that_applies (clear_rules cfg code (lent_counts counts) s) ≡ 0) where
  pub may_clear : MayClear cfg s
  unfolding clear_rules
  may_clear = (
    not-false (config_ok cfg) (none_applies _ z refl 0),
    (three_passed (counts_fit counts) (well_formed cfg s) (none_applies _ z refl 1)).1,
  )

  module _ {rise : List ℕ} (p : rise ≡ rise_of (clear_log cfg code s)) where
    pub may_raise : AreFive counts × (past (raised rise counts) ≡ false)
    unfolding clear_rules
    may_raise = (
      are_five counts (three_passed (counts_fit counts) (well_formed cfg s) (none_applies _ z refl 1)).0,
      ap (λ (l : List ℕ). past (raised l counts)) p ∙ none_applies _ z refl 3,
    )

    pub leaves_done : {t : State} → t ≡ cleared cfg code s → {after : List ℕ} → after ≡ raised rise counts
        → done (lent_counts after) t ≡ done (with_rise (clear_log cfg code s) (lent_counts counts)) (cleared cfg code s)
    leaves_done q r = λ i. done (lent_counts ((r ∙ ap (λ (l : List ℕ). raised l counts) p) i)) (q i)
