-- In every state that calls lead to, with restores of images saved on the way: the configuration is accepted and the
-- state well formed, so no call is refused with 2, nor with 3 where it takes no counts or is lent five; memory lists no
-- event twice; and the stored record of each event is the record that its history makes.
use mathlib.Core.Path.{◌≡◌, refl, sym, ap, subst, ◌∙◌}
use mathlib.Core.Logic.{◌≢◌}
use mathlib.Core.Bool.{Bool, true, not, ◌&&◌}
use mathlib.Core.List.{List, [], ◌∷◌, ◌++◌}
use Prim.Native.Nat.{ℕ, ◌<◌}
use native.Mathlib.Omega.{arith}
use borrow.Author.Tests.{not-false}
use Rattle.history.specs.History.{record_after}
use Rattle.manual.specs.Configuration.{Configuration, events, limits_of, config_ok}
use Rattle.manual.specs.State.{State, stored, stored_at}
use Rattle.manual.specs.Answers.{Beside, Outcome, Rule, ◌if◌, first_that_applies}
use Rattle.manual.specs.Counts.{counts_fit}
use Rattle.manual.specs.Memory.{no_twice}
use Rattle.manual.specs.WellFormed.{entries, well_formed}
use Rattle.manual.specs.Counter.{read_counter_rules}
use Rattle.manual.specs.Missing.{read_missing_rules}
use Rattle.manual.specs.Calls.{fresh_rules, fresh, fresh_state, report_rules, tick_rules, start_rules}
use Rattle.manual.specs.Calls.{stop_rules, clear_rules, read_status_rules, read_frame_rules}
use Rattle.manual.specs.Untested.{read_table_rules, read_paint_rules, list_grey_rules}
use Rattle.manual.specs.Image.{save_rules, restore_rules}
use Rattle.manual.specs.Diagnostics.{request_rules}
use Rattle.manual.specs.Sequences.{Query, ReadStatus, ReadFrame, ReadCounter, ReadMissing, ReadTable, ReadPaint}
use Rattle.manual.specs.Sequences.{ListGrey, Save, Call, Fresh, Report, Tick}
use Rattle.manual.specs.Sequences.{Start, Stop, Clear, Read, Restore, Request, outcome, query_rules}
use Rattle.manual.specs.Sequences.{rules_of, tokens_at, carries_on, Reached, begun, called, restored}
use Rattle.manual.specs.Tallies.{takes_counts}
use Rattle.manual.proofs.AnswersLaws.{none_applies, accepted, lacks, never_given}
use Rattle.manual.proofs.WellFormedLaws.{state_tells, well_formed_lengths}
use Rattle.manual.proofs.SequencesLaws.{Histories}
use Rattle.manual.proofs.RecordsFollowHistories.{Follows, call_follows, fresh_follows}
use Rattle.manual.proofs.RestoreAfterSave.{restored_is_saved}
use Rattle.manual.proofs.StaysWellFormed.{stays_well_formed, fresh_makes_well_formed}
use Rattle.manual.proofs.HistoriesAreLegal.{four_cycles_lem}
use Rattle.manual.proofs.AnswerIsFirstThatApplies.{answer_is}

-- ---- where the configuration and the state are in order, 2 and 3 are not given

not_2 : (a x : Bool) (rules : List Rule) → a ≡ true → lacks 2 rules ≡ true
    → first_that_applies ((2 if not a) ∷ (3 if x) ∷ rules) ≢ 2
unfolding first_that_applies
not_2 a x rules p l = rw p (never_given 2 (λ z. omega arith) ((3 if x) ∷ rules) l)

not_3 : (fits a b : Bool) (rules : List Rule) → fits ≡ true → a ≡ true → b ≡ true → lacks 3 rules ≡ true
    → first_that_applies ((2 if not a) ∷ (3 if not (fits && b)) ∷ rules) ≢ 3
unfolding first_that_applies
not_3 fits a b rules f p q l = rw (f, p, q) (never_given 3 (λ z. omega arith) rules l)

module _ (cfg : Configuration) where
  query_not_2 : (q : Query) (b : Beside) (s : State) → config_ok cfg ≡ true
      → first_that_applies (query_rules cfg q b s) ≢ 2
  unfolding read_status_rules read_frame_rules read_counter_rules read_missing_rules read_table_rules read_paint_rules list_grey_rules
      save_rules
  query_not_2 (ReadStatus e) b s k = not_2 _ _ _ k refl
  query_not_2 (ReadFrame e which) b s k = not_2 _ _ _ k refl
  query_not_2 (ReadCounter e) b s k = not_2 _ _ _ k refl
  query_not_2 (ReadMissing e present) b s k = not_2 _ _ _ k refl
  query_not_2 ReadTable b s k = not_2 _ _ _ k refl
  query_not_2 (ReadPaint e) b s k = not_2 _ _ _ k refl
  query_not_2 ListGrey b s k = not_2 _ _ _ k refl
  query_not_2 Save b s k = not_2 _ _ _ k refl

  query_not_3 : (q : Query) (b : Beside) (s : State) → config_ok cfg ≡ true → well_formed cfg s ≡ true
      → first_that_applies (query_rules cfg q b s) ≢ 3
  unfolding read_status_rules read_frame_rules read_counter_rules read_missing_rules read_table_rules read_paint_rules list_grey_rules
      save_rules
  query_not_3 (ReadStatus e) b s k w = not_3 true _ _ _ refl k w refl
  query_not_3 (ReadFrame e which) b s k w = not_3 true _ _ _ refl k w refl
  query_not_3 (ReadCounter e) b s k w = not_3 true _ _ _ refl k w refl
  query_not_3 (ReadMissing e present) b s k w = not_3 true _ _ _ refl k w refl
  query_not_3 ReadTable b s k w = not_3 true _ _ _ refl k w refl
  query_not_3 (ReadPaint e) b s k w = not_3 true _ _ _ refl k w refl
  query_not_3 ListGrey b s k w = not_3 true _ _ _ refl k w refl
  query_not_3 Save b s k w = not_3 true _ _ _ refl k w refl

  call_not_2 : (c : Call) (b : Beside) (s : State) → config_ok cfg ≡ true → first_that_applies (rules_of cfg c b s) ≢ 2
  unfolding fresh_rules report_rules tick_rules start_rules stop_rules clear_rules restore_rules request_rules
  call_not_2 Fresh b s k = not_2 _ _ _ k refl
  call_not_2 (Report e code frame present) b s k = not_2 _ _ _ k refl
  call_not_2 (Tick ms frame present) b s k = not_2 _ _ _ k refl
  call_not_2 (Start c) b s k = not_2 _ _ _ k refl
  call_not_2 (Stop c) b s k = not_2 _ _ _ k refl
  call_not_2 (Clear code) b s k = not_2 _ _ _ k refl
  call_not_2 (Read q) b s k = query_not_2 q b s k
  call_not_2 (Restore image) b s k = not_2 _ _ _ k refl
  call_not_2 (Request bytes) b s k = not_2 _ _ _ k refl

  call_not_3 : (c : Call) (b : Beside) (s : State) → (takes_counts c ≡ true → counts_fit b.counts ≡ true)
      → config_ok cfg ≡ true → well_formed cfg s ≡ true → first_that_applies (rules_of cfg c b s) ≢ 3
  unfolding fresh_rules report_rules tick_rules start_rules stop_rules clear_rules restore_rules request_rules
  call_not_3 Fresh b s f k w = not_3 _ _ _ _ (f refl) k (well_formed_lengths cfg s w) refl
  call_not_3 (Report e code frame present) b s f k w = not_3 _ _ _ _ (f refl) k w refl
  call_not_3 (Tick ms frame present) b s f k w = not_3 _ _ _ _ (f refl) k w refl
  call_not_3 (Start c) b s f k w = not_3 true _ _ _ refl k w refl
  call_not_3 (Stop c) b s f k w = not_3 _ _ _ _ (f refl) k w refl
  call_not_3 (Clear code) b s f k w = not_3 _ _ _ _ (f refl) k w refl
  call_not_3 (Read q) b s f k w = query_not_3 q b s k w
  call_not_3 (Restore image) b s f k w = not_3 _ _ _ _ (f refl) k (well_formed_lengths cfg s w) refl
  call_not_3 (Request bytes) b s f k w = not_3 _ _ _ _ (f refl) k w refl

  -- what holds of every state that calls lead to
  record Whole (s : State) (H : Histories) : Type 0 where
    config : config_ok cfg ≡ true
    formed : well_formed cfg s ≡ true
    follows : Follows cfg s H

  whole_begun : (b : Beside) (s : State) → (fresh cfg b s).answer ≡ 0 → Whole (fresh cfg b s).state (λ e. [])
  unfolding fresh fresh_rules fresh_state
  whole_begun b s z =
      let a = accepted _ b s _ z in
      let config : config_ok cfg ≡ true = not-false (config_ok cfg) (none_applies _ a.0 refl 0) in
      let is : (fresh cfg b s).state ≡ fresh_state cfg = ap (λ (o : Outcome). o.state) a.1 in
      record {
        config = config;
        formed = fresh_makes_well_formed cfg b s z;
        follows = subst (λ (t : State). Follows cfg t (λ e. [])) (sym is) (fresh_follows cfg);
      }

  whole_called : (s : State) (H : Histories) (c : Call) (b : Beside) → carries_on cfg c b s ≡ true → Whole s H
      → Whole (outcome cfg c b s).state (λ e. tokens_at cfg c b s e ++ H e)
  whole_called s H c b g w = record {
    config = w.config;
    formed = stays_well_formed cfg c b s w.formed;
    follows = call_follows cfg c b s H g w.follows;
  }

  whole : {s : State} {H : Histories} → Reached cfg s H → Whole s H
  whole (begun b s z) = whole_begun b s z
  whole (called {s} {H} r c b g) = whole_called s H c b g (whole r)
  whole (restored {s} {H} r b z b' s' a) =
      subst (λ (o : Outcome). Whole o.state H) (sym (restored_is_saved cfg s s' (four_cycles_lem cfg r) b b' z a))
      (whole r)

  module _ {s : State} {H : Histories} (reached : Reached cfg s H) where
    pub config_accepted : config_ok cfg ≡ true
    config_accepted = (whole reached).config

    pub well_formed_lem : well_formed cfg s ≡ true
    well_formed_lem = (whole reached).formed

    -- "Memory never lists an event twice"
    pub no_event_twice : no_twice (entries cfg s) ≡ true
    no_event_twice = (state_tells cfg s well_formed_lem).once

    -- the record that the history makes
    pub record_follows : (e : ℕ) → e < events cfg
        → stored_at e s.records ≡ stored (record_after (limits_of cfg e) (H e))
    record_follows = (whole reached).follows.records

    -- no call of a sequence is refused with 2
    pub never_refused_with_2 : (c : Call) (b : Beside) → (outcome cfg c b s).answer ≢ 2
    never_refused_with_2 c b q = call_not_2 c b s config_accepted (sym (answer_is cfg c b s) ∙ q)

    -- nor with 3, where it takes no counts or is lent five
    pub never_refused_with_3 : (c : Call) (b : Beside) → (takes_counts c ≡ true → counts_fit b.counts ≡ true)
        → (outcome cfg c b s).answer ≢ 3
    never_refused_with_3 c b five q =
        call_not_3 c b s five config_accepted well_formed_lem (sym (answer_is cfg c b s) ∙ q)
