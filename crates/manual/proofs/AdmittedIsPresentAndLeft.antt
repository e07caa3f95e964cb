-- In every sequence of calls that are lent the counts that were left: each count is the number of happenings of its
-- kind in the log, and admitted equals entries present plus pushed out plus aged plus cleared. Of each event by itself,
-- what was admitted less what left is what is present; which way it left, StoresAreNamed.antt says of a report and of
-- each part of a tick.
use mathlib.Core.Path.{◌≡◌, refl, sym, ap, subst, ◌∙◌}
use mathlib.Core.Bool.{Bool, true, false, not, ◌&&◌, cond}
use mathlib.Core.List.{List, [], ◌++◌}
use Prim.Native.Nat.{ℕ, zero, suc, ◌+◌}
use native.Mathlib.Omega.{arith}
use lib.Dec.{eqb}
use lib.ListN.{length, get_or, replicate}
use borrow.Author.Tests.{eqb-true, eqb-false, not-false}
use Rattle.history.proofs.WordsLaws.{and_left, and_right}
use Rattle.manual.specs.Words.{count_those, three_at}
use Rattle.manual.specs.Configuration.{Configuration, places, entry_frames}
use Rattle.manual.specs.State.{State}
use Rattle.manual.specs.Memory.{Entry, memory_length, entry_count, entries_from, entries_of}
use Rattle.manual.specs.WellFormed.{entries}
use Rattle.manual.specs.Answers.{Beside, lent_both, Outcome}
use Rattle.manual.specs.Counter.{read_counter}
use Rattle.manual.specs.Missing.{read_missing}
use Rattle.manual.specs.Untested.{read_table, read_paint, list_grey}
use Rattle.manual.specs.Calls.{fresh_state, fresh, report, tick, start_cycle, stop_cycle, clear_code, clear_log}
use Rattle.manual.specs.Calls.{read_status, read_frame}
use Rattle.manual.specs.Image.{state_of, save, restore}
use Rattle.manual.specs.Diagnostics.{asks_clear, counts_after, sent, request_reply}
use Rattle.manual.specs.Counts.{Happening, present_log, rise_of, raised, present_of, admissions_of, leavings_of}
use Rattle.manual.specs.Counts.{Accounts}
use Rattle.manual.specs.Sequences.{Query, ReadStatus, ReadFrame, ReadCounter, ReadMissing, ReadTable, ReadPaint}
use Rattle.manual.specs.Sequences.{ListGrey, Save, Call, Fresh, Report, Tick, Start, Stop, Clear, Read, Restore}
use Rattle.manual.specs.Sequences.{Request, begins_anew, answer_to, outcome, log_of, log_at, carries_on}
use Rattle.manual.specs.Tallies.{Tally, tally_of, counting, aside, anew, Tallied, begun, called, passed_by}
use Rattle.manual.proofs.WordsLaws.{clash, by}
use Rattle.manual.proofs.AnswersLaws.{accepted}
use Rattle.manual.proofs.AnswerIsFirstThatApplies.{refusal_leaves_all}
use Rattle.manual.proofs.CallsWithoutCounts.{not_counting_goes_on, not_counting_adds_nothing}
use Rattle.manual.proofs.RepliesLaws.{counts_rise, counts_stay}
use Rattle.manual.proofs.CountsLaws.{rise_append, present_rise, all_accounts}
use Rattle.manual.proofs.AccountsLaws.{accounts_then, present_accounts, call_accounts}

abbrev counts_in : Outcome → List ℕ
counts_in o = o.beside.counts

module _ (cfg : Configuration) where
  -- ---- the counts that a call leaves of those of a log

  module _ (b : Beside) (s : State) (log : List Happening) (of-log : b.counts ≡ rise_of log) where
    raises : (l : List Happening) → raised (rise_of l) b.counts ≡ rise_of (l ++ log)
    raises l = ap (raised (rise_of l)) of-log ∙ sym (rise_append l log)

    query_counts : (q : Query) → (answer_to cfg q b s).answer ≡ 0 → (answer_to cfg q b s).beside.counts ≡ b.counts
    unfolding read_status read_frame read_counter read_missing read_table read_paint list_grey save
    query_counts (ReadStatus k) z = ap counts_in (accepted _ b s _ z).1
    query_counts (ReadFrame k which) z = ap counts_in (accepted _ b s _ z).1
    query_counts (ReadCounter k) z = ap counts_in (accepted _ b s _ z).1
    query_counts (ReadMissing k present) z = ap counts_in (accepted _ b s _ z).1
    query_counts ReadTable z = ap counts_in (accepted _ b s _ z).1
    query_counts (ReadPaint k) z = ap counts_in (accepted _ b s _ z).1
    query_counts ListGrey z = ap counts_in (accepted _ b s _ z).1
    query_counts Save z = ap counts_in (accepted _ b s _ z).1

    request_counts : (bytes : List ℕ) → (request_reply cfg bytes b s).answer ≡ 0
        → (request_reply cfg bytes b s).beside.counts ≡ rise_of (log_of cfg (Request bytes) s ++ log)
    unfolding request_reply sent
    request_counts bytes z =
        ap counts_in (accepted _ b s _ z).1 ∙ go (asks_clear cfg bytes) refl
      where
        go : (t : Bool) → asks_clear cfg bytes ≡ t
            → counts_after cfg bytes b s
            ≡ rise_of (cond (asks_clear cfg bytes) (clear_log cfg (three_at 1 bytes) s) [] ++ log)
        go true t = counts_rise cfg bytes b s t ∙ rw t (raises (clear_log cfg (three_at 1 bytes) s))
        go false f = counts_stay cfg bytes b s f ∙ rw f of-log

    accepted_counts : (c : Call) → begins_anew c ≡ false → (outcome cfg c b s).answer ≡ 0
        → (outcome cfg c b s).beside.counts ≡ rise_of (log_of cfg c s ++ log)
    unfolding report tick start_cycle stop_cycle clear_code
    accepted_counts Fresh n z = clash true refl n
    accepted_counts (Report k code frame present) n z =
        ap counts_in (accepted _ b s _ z).1 ∙ raises (log_of cfg (Report k code frame present) s)
    accepted_counts (Tick ms frame present) n z =
        ap counts_in (accepted _ b s _ z).1 ∙ raises (log_of cfg (Tick ms frame present) s)
    accepted_counts (Start c) n z = ap counts_in (accepted _ b s _ z).1 ∙ of-log
    accepted_counts (Stop c) n z =
        ap counts_in (accepted _ b s _ z).1 ∙ raises (log_of cfg (Stop c) s)
    accepted_counts (Clear code) n z =
        ap counts_in (accepted _ b s _ z).1 ∙ raises (log_of cfg (Clear code) s)
    accepted_counts (Read q) n z = query_counts q z ∙ of-log
    accepted_counts (Restore image) n z = clash true refl n
    accepted_counts (Request bytes) n z = request_counts bytes z

    -- a refused call leaves them, and its log is empty
    call_counts : (c : Call) → carries_on cfg c b s ≡ true
        → (outcome cfg c b s).beside.counts ≡ rise_of (log_at cfg c b s ++ log)
    call_counts c g = go (eqb (outcome cfg c b s).answer 0) refl
      where
        goes : (anew done : Bool) → done ≡ true → not (anew && done) ≡ true → anew ≡ false
        goes true done d n = clash true refl (rw d at (sym n))
        goes false done d n = refl

        go : (t : Bool) → eqb (outcome cfg c b s).answer 0 ≡ t
            → (outcome cfg c b s).beside.counts ≡ rise_of (cond t (log_of cfg c s) [] ++ log)
        go true t = accepted_counts c (goes (begins_anew c) _ t g) (eqb-true _ 0 t)
        go false f =
            ap counts_in (refusal_leaves_all cfg c b s (eqb-false _ 0 f)) ∙ of-log

  -- ---- the counts of a fresh state and of a restored one

  no_entries : (k : ℕ) → entry_count (replicate k 0) ≡ 0
  no_entries zero = refl
  no_entries (suc k) = refl

  fresh_entries : entries cfg (fresh_state cfg) ≡ []
  unfolding fresh_state entries_of entries_from
  fresh_entries = rw (no_entries (memory_length (places cfg) (entry_frames cfg)))

  anew_counts : (c : Call) (b : Beside) (s : State) → begins_anew c ≡ true → (outcome cfg c b s).answer ≡ 0
      → (outcome cfg c b s).beside.counts ≡ rise_of (present_log (entries cfg (outcome cfg c b s).state))
  unfolding fresh restore
  anew_counts Fresh b s t z =
      let is = (accepted _ b s _ z).1 in
      ap counts_in is
      ∙ sym (ap (λ (o : Outcome). rise_of (present_log (entries cfg o.state))) is
      ∙ ap (λ (xs : List Entry). rise_of (present_log xs)) fresh_entries ∙ present_rise [])
  anew_counts (Report k code frame present) b s t z = clash true refl (sym t)
  anew_counts (Tick ms frame present) b s t z = clash true refl (sym t)
  anew_counts (Start c) b s t z = clash true refl (sym t)
  anew_counts (Stop c) b s t z = clash true refl (sym t)
  anew_counts (Clear code) b s t z = clash true refl (sym t)
  anew_counts (Read q) b s t z = clash true refl (sym t)
  anew_counts (Restore image) b s t z =
      let is = (accepted _ b s _ z).1 in
      ap counts_in is
      ∙ sym (ap (λ (o : Outcome). rise_of (present_log (entries cfg o.state))) is
      ∙ present_rise (entries cfg (state_of cfg image)))
  anew_counts (Request bytes) b s t z = clash true refl (sym t)

  -- ---- every sequence

  record Whole (t : Tally) : Type 0 where
    counts : t.counts ≡ rise_of t.log
    accounts : (p : ℕ → Bool) → Accounts p t.log [] (entries cfg t.state)

  whole_anew : (c : Call) (b : Beside) (s : State) → carries_on cfg c b s ≡ false → Whole (anew cfg (outcome cfg c b s))
  whole_anew c b s g =
      let both = not-false (begins_anew c && eqb (outcome cfg c b s).answer 0) g in
      record {
        counts = anew_counts c b s (and_left (begins_anew c) _ both) (eqb-true _ 0 (and_right (begins_anew c) _ both));
        accounts = λ p. present_accounts p (entries cfg (outcome cfg c b s).state);
      }

  whole_on : (c : Call) (b : Beside) (t : Tally) → b.counts ≡ t.counts → carries_on cfg c b t.state ≡ true → Whole t
      → Whole (tally_of (outcome cfg c b t.state) (log_at cfg c b t.state ++ t.log))
  whole_on c b t left g w = record {
    counts = call_counts b t.state t.log (left ∙ w.counts) c g;
    accounts =
        λ p. accounts_then p t.log (log_at cfg c b t.state) [] (entries cfg t.state) _ (w.accounts p)
        (call_accounts p cfg c b t.state g);
  }

  -- nothing is added to the log
  whole_aside : (c : Call) (b : Beside) (t : Tally) → counting cfg c b t.state ≡ false → Whole t
      → Whole (aside cfg c b t.state t)
  whole_aside c b t f w = record {
    counts = w.counts;
    accounts =
        λ p. subst
        (λ (l : List Happening). Accounts p (l ++ t.log) [] (entries cfg (outcome cfg c b t.state).state))
        (not_counting_adds_nothing cfg c b t.state f)
        (accounts_then p t.log (log_at cfg c b t.state) [] (entries cfg t.state) _ (w.accounts p)
        (call_accounts p cfg c b t.state (not_counting_goes_on cfg c b t.state f)));
  }

  whole : {t : Tally} → Tallied cfg t → Whole t
  whole (begun c b s g) = whole_anew c b s g
  whole (called {t} r c room) =
      by (carries_on cfg c (lent_both room t.counts) t.state) Whole
      (λ g. whole_on c (lent_both room t.counts) t refl g (whole r)) (λ g. whole_anew c _ t.state g)
  whole (passed_by {t} r c b f) = whole_aside c b t f (whole r)

  -- ---- the theorem

  module _ {t : Tally} (tallied : Tallied cfg t) where
    -- "each being the number of entries that the history shows stored anew or leaving so"
    pub counts_are_of_the_log : t.counts ≡ rise_of t.log
    counts_are_of_the_log = (whole tallied).counts

    -- "admitted equals entries present plus pushed out plus aged plus cleared"
    pub admitted_is_present_and_left : get_or t.counts 0 0
        ≡ length (entries cfg t.state) + get_or t.counts 1 0 + get_or t.counts 2 0 + get_or t.counts 3 0
    admitted_is_present_and_left =
        rw counts_are_of_the_log
        (omega (arith, all_accounts t.log [] (entries cfg t.state) ((whole tallied).accounts (λ e. true))))

    -- and so of the events that pass any test, as one event by itself
    pub admitted_of_events : (p : ℕ → Bool)
        → admissions_of p t.log ≡ present_of p (entries cfg t.state) + leavings_of p t.log
    unfolding count_those
    admitted_of_events p = omega (arith, (whole tallied).accounts p)
