-- "five counts, each 32 bits": in every sequence of calls that are lent the counts that were left, no count is past
-- 4,294,967,295.
use mathlib.Core.Path.{◌≡◌, refl, sym, ap, ◌∙◌}
use mathlib.Core.Bool.{Bool, true, false, not, ◌&&◌}
use mathlib.Core.List.{List}
use Prim.Native.Nat.{ℕ, ◌≤◌}
use native.Mathlib.Omega.{arith}
use lib.Dec.{eqb}
use lib.ListN.{length}
use borrow.Author.Tests.{eqb-true, eqb-false, not-false}
use Rattle.history.proofs.WordsLaws.{and_left, and_right}
use Rattle.manual.specs.Words.{three_at}
use Rattle.manual.specs.Configuration.{Configuration, most_places, config_ok}
use Rattle.manual.specs.State.{State}
use Rattle.manual.specs.Memory.{Entry}
use Rattle.manual.specs.WellFormed.{entries, well_formed}
use Rattle.manual.specs.Answers.{Beside, lent_both, Outcome}
use Rattle.manual.specs.Calls.{fresh, fresh_rules, report, report_rules, tick, tick_rules, stop_cycle, stop_rules}
use Rattle.manual.specs.Calls.{clear_code, clear_rules, clear_log}
use Rattle.manual.specs.Image.{restore, restore_rules}
use Rattle.manual.specs.Diagnostics.{asks_clear, counts_after, sent, request_reply, request_rules}
use Rattle.manual.specs.Counts.{past, present_counts, raised, rise_of}
use Rattle.manual.specs.Sequences.{Call, Fresh, Report, Tick, Start, Stop, Clear, Read, Restore, Request}
use Rattle.manual.specs.Sequences.{begins_anew, outcome, carries_on}
use Rattle.manual.specs.Tallies.{Tally, Tallied, begun, called, passed_by}
use Rattle.manual.proofs.WordsLaws.{clash, by}
use Rattle.manual.proofs.AnswersLaws.{none_applies, accepted}
use Rattle.manual.proofs.AnswerIsFirstThatApplies.{refusal_leaves_all}
use Rattle.manual.proofs.ConfigurationLaws.{config_tells}
use Rattle.manual.proofs.SoundStates.{sound}
use Rattle.manual.proofs.StaysWellFormed.{fresh_makes_well_formed, restore_makes_well_formed}
use Rattle.manual.proofs.RepliesLaws.{counts_rise, counts_stay}
use Rattle.manual.proofs.CountsLaws.{present_rise, past_exactly}
use Rattle.manual.proofs.CallsWithoutCounts.{counts_as_found}
use Rattle.manual.proofs.AdmittedIsPresentAndLeft.{counts_are_of_the_log}

few_not_past : (xs : List Entry) → length xs ≤ most_places → past (present_counts xs) ≡ false
few_not_past xs few =
    (past_exactly (present_counts xs)).1 (omega arith, (omega arith, (omega arith, (omega arith, (omega arith, tt)))))

module _ (cfg : Configuration) where
  few_entries : (s : State) → config_ok cfg ≡ true → well_formed cfg s ≡ true → length (entries cfg s) ≤ most_places
  few_entries s k w =
      let few = (sound cfg s w).memory.good.few in let most = (config_tells cfg k).M_most in omega (arith, few, most)

  -- ---- a fresh or a restore

  begun_few : (c : Call) (b : Beside) (s : State) → begins_anew c ≡ true → (outcome cfg c b s).answer ≡ 0
      → length (entries cfg (outcome cfg c b s).state) ≤ most_places
  unfolding fresh fresh_rules restore restore_rules
  begun_few Fresh b s t z =
      few_entries _ (not-false _ (none_applies _ (accepted _ b s _ z).0 refl 0)) (fresh_makes_well_formed cfg b s z)
  begun_few (Report k code frame present) b s t z = clash true refl (sym t)
  begun_few (Tick ms frame present) b s t z = clash true refl (sym t)
  begun_few (Start c) b s t z = clash true refl (sym t)
  begun_few (Stop c) b s t z = clash true refl (sym t)
  begun_few (Clear code) b s t z = clash true refl (sym t)
  begun_few (Read q) b s t z = clash true refl (sym t)
  begun_few (Restore image) b s t z =
      few_entries _ (not-false _ (none_applies _ (accepted _ b s _ z).0 refl 0))
      (restore_makes_well_formed cfg image b s z)
  begun_few (Request bytes) b s t z = clash true refl (sym t)

  anew_not_past : (c : Call) (b : Beside) (s : State) → carries_on cfg c b s ≡ false
      → past (outcome cfg c b s).beside.counts ≡ false
  anew_not_past c b s g =
      let both = not-false (begins_anew c && eqb (outcome cfg c b s).answer 0) g in
      ap past (counts_are_of_the_log cfg (begun c b s g) ∙ present_rise (entries cfg (outcome cfg c b s).state))
      ∙ few_not_past (entries cfg (outcome cfg c b s).state)
      (begun_few c b s (and_left (begins_anew c) _ both) (eqb-true _ 0 (and_right (begins_anew c) _ both)))

  -- ---- any other call: 12 does not apply

  module _ (b : Beside) (s : State) (kept : past b.counts ≡ false) where
    abbrev past_in : Outcome → Bool
    past_in o = past o.beside.counts

    request_not_past : (bytes : List ℕ) → (request_reply cfg bytes b s).answer ≡ 0
        → past_in (request_reply cfg bytes b s) ≡ false
    unfolding request_reply request_rules sent
    request_not_past bytes z =
        ap past_in (accepted _ b s _ z).1
        ∙ go (asks_clear cfg bytes) refl (none_applies _ (accepted _ b s _ z).0 refl 4)
      where
        go : (t : Bool) → asks_clear cfg bytes ≡ t
            → (t && past (raised (rise_of (clear_log cfg (three_at 1 bytes) s)) b.counts)) ≡ false
            → past (counts_after cfg bytes b s) ≡ false
        go true t n = ap past (counts_rise cfg bytes b s t) ∙ n
        go false f n = ap past (counts_stay cfg bytes b s f) ∙ kept

    accepted_not_past : (c : Call) → begins_anew c ≡ false → (outcome cfg c b s).answer ≡ 0
        → past_in (outcome cfg c b s) ≡ false
    unfolding report report_rules tick tick_rules stop_cycle stop_rules clear_code clear_rules
    accepted_not_past Fresh n z = clash true refl n
    accepted_not_past (Report k code frame present) n z =
        ap past_in (accepted _ b s _ z).1 ∙ none_applies _ (accepted _ b s _ z).0 refl 8
    accepted_not_past (Tick ms frame present) n z =
        ap past_in (accepted _ b s _ z).1 ∙ none_applies _ (accepted _ b s _ z).0 refl 4
    accepted_not_past (Start c) n z = ap past (counts_as_found cfg (Start c) refl b s) ∙ kept
    accepted_not_past (Stop c) n z =
        ap past_in (accepted _ b s _ z).1 ∙ none_applies _ (accepted _ b s _ z).0 refl 4
    accepted_not_past (Clear code) n z =
        ap past_in (accepted _ b s _ z).1 ∙ none_applies _ (accepted _ b s _ z).0 refl 3
    accepted_not_past (Read q) n z = ap past (counts_as_found cfg (Read q) refl b s) ∙ kept
    accepted_not_past (Restore image) n z = clash true refl n
    accepted_not_past (Request bytes) n z = request_not_past bytes z

    call_not_past : (c : Call) → carries_on cfg c b s ≡ true → past_in (outcome cfg c b s) ≡ false
    call_not_past c g = go (eqb (outcome cfg c b s).answer 0) refl
      where
        goes : (anew done : Bool) → done ≡ true → not (anew && done) ≡ true → anew ≡ false
        goes true done d n = clash true refl (rw d at (sym n))
        goes false done d n = refl

        go : (t : Bool) → eqb (outcome cfg c b s).answer 0 ≡ t → past_in (outcome cfg c b s) ≡ false
        go true t = accepted_not_past c (goes (begins_anew c) _ t g) (eqb-true _ 0 t)
        go false f = ap past_in (refusal_leaves_all cfg c b s (eqb-false _ 0 f)) ∙ kept

  pub each_count_is_32_bits : {t : Tally} → Tallied cfg t → past t.counts ≡ false
  each_count_is_32_bits (begun c b s g) = anew_not_past c b s g
  each_count_is_32_bits (called {t} r c room) =
      by (carries_on cfg c (lent_both room t.counts) t.state) (λ (u : Tally). past u.counts ≡ false)
      (λ g. call_not_past (lent_both room t.counts) t.state (each_count_is_32_bits r) c g)
      (λ g. anew_not_past c _ t.state g)
  each_count_is_32_bits (passed_by r c b f) = each_count_is_32_bits r
