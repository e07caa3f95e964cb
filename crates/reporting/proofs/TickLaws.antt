-- What a tick finds where its tests pass, at its start and at each event, and what it leaves.
use mathlib.Core.Path.{◌≡◌, refl, sym, ap, subst, ◌∙◌}
use mathlib.Core.Logic.{◌≢◌}
use mathlib.Core.Bool.{Bool, true, false, cond}
use mathlib.Core.List.{List, []}
use Prim.Native.Nat.{ℕ, ◌+◌, ◌<◌}
use native.Mathlib.Nat.{zero-add}
use native.Mathlib.Numerals.{add-one}
use native.Mathlib.Omega.{arith}
use borrow.Author.Tests.{eqb-true, eq-eqb, ne_eqb, ltb-false, not-false}
use Rattle.manual.specs.declared.Board.{Board}
use Rattle.manual.specs.declared.Rise.{Rise}
use Rattle.manual.specs.declared.StoreAnswer.{StoreAnswer}
use Rattle.manual.specs.declared.StoreAnswer.TheVariants.{Untold}
use Rattle.manual.specs.Words.{nat_of, for_below, count_those}
use Rattle.manual.specs.Configuration.{Configuration, events, kind_of}
use Rattle.manual.specs.State.{State, runs}
use Rattle.manual.specs.WellFormed.{well_formed}
use Rattle.manual.specs.Answers.{Beside, lent_counts, done, first_that_applies}
use Rattle.manual.specs.Counts.{Happening, of_store, log_below, rise_of, numbers, raised, carries_past, with_rise}
use Rattle.manual.specs.Counts.{counts_fit, no_counts}
use Rattle.manual.specs.Calls.{cycle_runs, time_runs, tick_moves, ticks, ticks_did, tick_log, tick_rules}
use Rattle.manual.proofs.AnswersLaws.{none_applies, three_passed}
use Rattle.manual.proofs.ConfigurationLaws.{config_tells}
use Rattle.manual.proofs.CountsLaws.{AtMost, rise_append, store_once, log_most}
use Rattle.manual.proofs.StaysWellFormed.{ticks_keep}
use Rattle.config.specs.Rows.{part_of}
use Rattle.config.proofs.PartLaws.{column_is}
use Rattle.counts.specs.Near.{AreFive, MayRise}
use Rattle.counts.proofs.NearLaws.{are_five, may_rise}
use Rattle.one_event.specs.Ready.{Ready}
use Rattle.one_event.specs.Steps.{Stepped, stepped, ticking}
use Rattle.one_event.proofs.TurnsLaws.{turn, next_turn, last_turn, ready_at_turn}
use Rattle.reporting.specs.Accepted.{Begun, MayTick, tick_part, ticked}
use Rattle.reporting.specs.Tests.{tick_tests}

-- ---- what passed tests tell

module _ (cfg : Configuration) (s : State) (ms : ℕ) (frame : List ℕ) where
  pub may_tick : {counts : List ℕ} → Begun cfg s counts → first_that_applies (tick_tests cfg ms frame) ≡ 0
      → MayTick cfg s ms frame
  may_tick b z = record {
    configured = b.configured;
    formed = b.formed;
    short = ltb-false _ _ (none_applies _ z refl 0);
    frame_fits = eqb-true _ _ (not-false _ (none_applies _ z refl 1));
  }

  module _ (present : ℕ) (counts : List ℕ)
      (z : first_that_applies (tick_rules cfg ms frame present (lent_counts counts) s) ≡ 0) where
    three : (counts_fit counts ≡ true) × (well_formed cfg s ≡ true)
    unfolding tick_rules
    three = three_passed (counts_fit counts) (well_formed cfg s) (none_applies _ z refl 1)

    pub tick_passed : MayTick cfg s ms frame
    unfolding tick_rules
    tick_passed = record {
      configured = not-false _ (none_applies _ z refl 0);
      formed = three.1;
      short = ltb-false _ _ (none_applies _ z refl 2);
      frame_fits = eqb-true _ _ (not-false _ (none_applies _ z refl 3));
    }

    pub tick_counts : AreFive counts × (carries_past (tick_log cfg ms frame present s) counts ≡ false)
    unfolding tick_rules
    tick_counts = (are_five counts three.0, none_applies _ z refl 4)

-- ---- the events, one by one

module _ (cfg : Configuration) (s : State) (ms : ℕ) (frame : List ℕ) (present : ℕ) where
  abbrev moved : ℕ → Bool
  moved = tick_moves cfg present s.board

  -- the state when the events below i have had their part of the tick
  abbrev pub ticked_below : ℕ → State
  ticked_below i = for_below i (turn moved (ticks cfg ms frame)) s

  -- what event e adds to the log
  abbrev logs : ℕ → State → List Happening
  logs e t = cond (moved e) (of_store e (ticks_did cfg ms frame e t)) []

  -- and what those below i have added
  abbrev pub logged_below : ℕ → List Happening
  logged_below i = log_below i (turn moved (ticks cfg ms frame)) logs s

  pub turn_ready : MayTick cfg s ms frame → (i : ℕ) → i < events cfg → {t : State} → t ≡ ticked_below i
      → Ready cfg t i
  turn_ready m i h p =
      ready_at_turn moved (ticks cfg ms frame) cfg s
      (ticks_keep cfg (config_tells cfg m.configured) ms frame present m.frame_fits s) m.configured
      m.formed i h p

  -- an event's part, where the tick moves it and where it does not
  part_left : (b : Bool) (e : ℕ) (t : State)
      → (cond b (ticking cfg frame e ms t) (stepped t Untold)).left ≡ cond b (ticks cfg ms frame e t) t
  part_left true e t = refl
  part_left false e t = refl

  part_log : (b : Bool) (e : ℕ) (t : State)
      → of_store e (cond b (ticking cfg frame e ms t) (stepped t Untold)).did
      ≡ cond b (of_store e (ticks_did cfg ms frame e t)) []
  part_log true e t = refl
  part_log false e t = refl

  pub none_ticked : no_counts ≡ rise_of (logged_below 0)
  unfolding log_below count_those
  none_ticked = refl

  -- "only kind 2 with its cycle running": which cycles run stays as it was at the tick's start
  module _ (i : ℕ) {t u : State} {did : StoreAnswer} (p : t ≡ ticked_below i)
      (q : stepped u did ≡ tick_part cfg ms frame present s.board i t) where
    pub next_ticked : u ≡ ticked_below (i + 1)
    next_ticked =
        next_turn moved (ticks cfg ms frame) i s p
        (ap (λ (x : Stepped State). x.left) q ∙ part_left (moved i) i t)

    pub next_logged : {k l : List ℕ} → k ≡ rise_of (logged_below i) → ((e : ℕ) → l ≡ raised (rise_of (of_store e did)) k)
        → l ≡ rise_of (logged_below (i + 1))
    unfolding log_below
    next_logged h r =
        let log : of_store i did ≡ logs i (ticked_below i) =
        ap (λ (x : Stepped State). of_store i x.did) q ∙ part_log (moved i) i t ∙ ap (logs i) p in
        rw add-one
        (r i ∙ (λ j. raised (rise_of (log j)) (h j)) ∙ sym (rise_append (logs i (ticked_below i)) (logged_below i)))

  pub all_ticked : (i : ℕ) → i ≡ events cfg → {t : State} → t ≡ ticked_below i → t ≡ ticked cfg ms frame present s
  all_ticked i n p = last_turn moved (ticks cfg ms frame) cfg i s n p

  pub all_logged : (i : ℕ) → i ≡ events cfg → {k : List ℕ} → k ≡ rise_of (logged_below i)
      → k ≡ rise_of (tick_log cfg ms frame present s)
  unfolding tick_log
  all_logged i n p = p ∙ ap (λ (j : ℕ). rise_of (logged_below j)) n

  -- one more event may be counted: the log of those before it is short
  pub may_count : MayTick cfg s ms frame → (i : ℕ) → i < events cfg → (rise : Rise)
      → numbers rise ≡ rise_of (logged_below i) → MayRise rise
  may_count m i h rise p =
      may_rise rise i (let most = (config_tells cfg m.configured).n_most in omega arith)
      (subst (AtMost i) (sym p) (log_most i (turn moved (ticks cfg ms frame)) logs s logs_once))
    where
      logs_once : (e : ℕ) (t : State) → AtMost 1 (rise_of (logs e t))
      logs_once e t =
          subst (λ (l : List Happening). AtMost 1 (rise_of l)) (part_log (moved e) e t)
          (store_once e (tick_part cfg ms frame present s.board e t).did)

  -- the counts stand beside the state that the tick leaves
  pub tick_left : {t : State} (counts : List ℕ) {counts' : List ℕ} → t ≡ ticked cfg ms frame present s
      → counts' ≡ raised (rise_of (tick_log cfg ms frame present s)) counts
      → done (lent_counts counts') t
      ≡ done (with_rise (tick_log cfg ms frame present s) (lent_counts counts)) (ticked cfg ms frame present s)
  tick_left counts p q = λ i. done (lent_counts (q i)) (p i)

-- an event that tells memory nothing adds nothing
none_added : (rise : Rise) (e : ℕ) → numbers rise ≡ raised (rise_of (of_store e Untold)) (numbers rise)
unfolding raised count_those
none_added rise e = simp zero-add

pub untold_added : (rise : Rise) {did : StoreAnswer} → did ≡ Untold → (e : ℕ)
    → numbers rise ≡ raised (rise_of (of_store e did)) (numbers rise)
untold_added rise p e =
    none_added rise e ∙ ap (λ (did : StoreAnswer). raised (rise_of (of_store e did)) (numbers rise)) (sym p)

-- what is judged of the state as it is read is judged of the state
pub tick_read : (cfg : Configuration) (ms : ℕ) (frame : List ℕ) (present : ℕ) (b : Beside) {s s' : State} {number : ℕ}
    → s' ≡ s
    → number ≡ first_that_applies (tick_rules cfg ms frame present b s')
    → number ≡ first_that_applies (tick_rules cfg ms frame present b s)
tick_read cfg ms frame present b p q =
    q ∙ ap (λ (t : State). first_that_applies (tick_rules cfg ms frame present b t)) p

-- "only kind 2 with its cycle running", by the event's part
module _ (cfg : Configuration) (board : Board) (e : ℕ) {part : Configuration} (p : part ≡ part_of cfg e) {kind : ℕ}
    (k : kind ≡ kind_of part 0) where
  kind_is : kind ≡ kind_of cfg e
  kind_is = k ∙ (λ i. kind_of (p i) 0) ∙ ap nat_of (column_is cfg e 4 (omega arith))

  pub of_no_time : kind ≢ 2 → false ≡ time_runs cfg board e
  of_no_time n = rw (← kind_is, ne_eqb kind 2 n)

  pub by_its_cycle : kind ≡ 2 → {r : Bool} → r ≡ cycle_runs part board 0 → r ≡ time_runs cfg board e
  by_its_cycle t q =
      rw (← kind_is, eq-eqb kind 2 t)
      (q ∙ (λ i. cycle_runs (p i) board 0) ∙ ap (λ z. runs board (nat_of z)) (column_is cfg e 3 (omega arith)))
