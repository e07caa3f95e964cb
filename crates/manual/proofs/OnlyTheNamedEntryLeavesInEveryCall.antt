-- In every call, but for an accepted fresh or restore: an entry that memory held before is there as it was, or is the
-- renewed entry of an event that failed afresh in this call, or was the victim that rule 3 names at that moment of the
-- call, or its event aged at this stop, or was cleared; and an entry that memory holds afterwards was there before, or
-- is that of an event that failed afresh in this call. A refused call and one that only reads leave memory as it was.
-- Nothing is asked of the state: where it is not well formed the call is refused.
use mathlib.Core.Path.{◌≡◌, refl, sym, ap, subst, ◌∙◌}
use mathlib.Core.Logic.{inl, inr}
use mathlib.Core.Bool.{Bool, true, false, not, cond}
use mathlib.Core.List.{List, Memᴰ}
use Prim.Native.Nat.{ℕ, zero, suc, ◌≤◌, ◌<◌}
use native.Mathlib.Nat.{le_refl}
use native.Mathlib.Omega.{arith}
use lib.ListN.{length}
use borrow.Author.Tests.{eqb-true, leb-false, not-false}
use Rattle.history.specs.StatusByte.{fresh_failure}
use Rattle.history.specs.History.{failed, start}
use Rattle.manual.specs.declared.Verdict.TheVariants.{Failed}
use Rattle.manual.specs.Words.{for_below, those, three_at}
use Rattle.manual.specs.Configuration.{Configuration, events, places, frame_bytes, priority_of, config_ok}
use Rattle.manual.specs.State.{State, record_of}
use Rattle.manual.specs.Debouncing.{Debounced}
use Rattle.manual.specs.Memory.{Entry, event_of}
use Rattle.manual.specs.WellFormed.{entries}
use Rattle.manual.specs.OneEvent.{happens, is_quiet, stops, for_those}
use Rattle.manual.specs.Answers.{Beside, first_that_applies}
use Rattle.manual.specs.Calls.{applied, report_rules, tick_moves, ticks, tick_rules}
use Rattle.manual.specs.Calls.{of_cycle, stop_rules, covers, cleared, clear_rules}
use Rattle.manual.specs.Sequences.{Call, Tick, outcome, carries_on}
use Rattle.manual.specs.EntriesInACall.{ticked_below, ages_in, FailsAfresh, in_report, in_tick, at_stop}
use Rattle.manual.specs.EntriesInACall.{by_clear, by_request, Fate, stays, is_renewed, is_pushed_out}
use Rattle.manual.specs.EntriesInACall.{is_aged, is_cleared, Origin, was_there, renewed_from, came}
use Rattle.history.proofs.WordsLaws.{and_true}
use Rattle.manual.proofs.WordsLaws.{by, for_below_keeps, mem_those, those_mem}
use Rattle.manual.proofs.AnswersLaws.{none_applies}
use Rattle.manual.proofs.ConfigurationLaws.{config_tells}
use Rattle.manual.proofs.OneEventLaws.{acts_stops, acts_clears}
use Rattle.manual.proofs.MemoryStaysGood.{MemoryGood}
use Rattle.manual.proofs.SequencesLaws.{Does, a_report, a_tick, a_start, a_stop, a_clear}
use Rattle.manual.proofs.SequencesLaws.{a_request, a_reading, Either, call_does}
use Rattle.manual.proofs.WellFormedLaws.{judged_formed}
use Rattle.manual.proofs.SoundStates.{Sound, sound}
use Rattle.manual.proofs.StaysWellFormed.{below_going, ticks_keep, stops_keep, clears_keep}
use Rattle.manual.proofs.EntriesInACallLaws.{StoreFate, StoreOrigin, entries_told, store_fate, store_origin}
use Rattle.manual.proofs.EntriesInACallLaws.{PartEntries, untold, told, part_entries, those_stay, ages_by}
use Rattle.manual.proofs.EntriesInACallLaws.{stops_entries, clears_entries}

module _ (cfg : Configuration) where
  -- what became of the entries of one moment, and then of those of the next
  fate_then : {b : Beside} {s : State} {c : Call} {mid after : List Entry}
      → ((y : Entry) → Memᴰ y mid → Fate cfg b s c after y)
      → {x : Entry} → Fate cfg b s c mid x → Fate cfg b s c after x
  fate_then f (stays m) = f _ m
  fate_then f (is_renewed a r) = is_renewed a (fate_then f r)
  fate_then f (is_pushed_out a v) = is_pushed_out a v
  fate_then f (is_aged a) = is_aged a
  fate_then f (is_cleared a) = is_cleared a

  -- ---- one part of a report or a tick

  module _ {b : Beside} {s : State} {c : Call} (frame : List ℕ) (framed : length frame ≡ frame_bytes cfg) (k : ℕ)
      (below : k < events cfg) (d : Debounced) (u : State)
      (good : MemoryGood cfg u)
      (afresh : d.verdict ≡ Failed → fresh_failure (record_of u k) ≡ true → FailsAfresh cfg b s c k frame u) where
    abbrev after : List Entry
    after = entries cfg (applied cfg frame k d u)

    abbrev quiet : ℕ → Bool
    quiet = is_quiet cfg (happens cfg failed k u)

    own : (x : Entry) → event_of x ≡ k → FailsAfresh cfg b s c k frame u → FailsAfresh cfg b s c (event_of x) frame u
    own x q a = subst (λ (e : ℕ). FailsAfresh cfg b s c e frame u) (sym q) a

    part_fate : (x : Entry) → Memᴰ x (entries cfg u) → Fate cfg b s c after x
    part_fate x m = go after (part_entries cfg frame k framed below d u good)
      where
        go : (xs : List Entry) → PartEntries cfg frame k framed below d u xs → Fate cfg b s c xs x
        go xs (untold q) = stays (subst (Memᴰ x) (sym q) m)
        go xs (told v f q) =
            rw q
            (by_store (store_fate (places cfg) (priority_of cfg) quiet k frame (entries cfg u) good.good.once x m))
          where
            by_store : StoreFate (places cfg) (priority_of cfg) quiet k frame (entries cfg u) (entries_told cfg frame k u)
                x
                → Fate cfg b s c (entries_told cfg frame k u) x
            by_store (inl r) = stays r
            by_store (inr (inl (e, r))) = is_renewed (own x e (afresh v f)) (stays r)
            by_store (inr (inr t)) = is_pushed_out (afresh v f) t

    part_origin : ((x : Entry) → Memᴰ x (entries cfg u) → Origin cfg b s c x) → (y : Entry) → Memᴰ y after
        → Origin cfg b s c y
    part_origin old y = go after (part_entries cfg frame k framed below d u good)
      where
        go : (xs : List Entry) → PartEntries cfg frame k framed below d u xs → Memᴰ y xs → Origin cfg b s c y
        go xs (untold q) m = old y (rw q at m)
        go xs (told v f q) m =
            by_store
            (store_origin (places cfg) (priority_of cfg) quiet k frame (entries cfg u) good.good.once y (rw q at m))
          where
            by_store : StoreOrigin (places cfg) (priority_of cfg) quiet k frame (entries cfg u) y → Origin cfg b s c y
            by_store (inl r) = old y r
            by_store (inr (inl (x, r, e, p))) =
                subst (Origin cfg b s c) (sym p) (renewed_from (own x e (afresh v f)) (old x r))
            by_store (inr (inr p)) = subst (Origin cfg b s c) (sym p) (came (afresh v f))

  -- ---- the parts of a tick, one after the other

  module _ (ms : ℕ) (frame : List ℕ) (present : ℕ) (b : Beside) (s : State) (framed : length frame ≡ frame_bytes cfg)
      (configured : config_ok cfg ≡ true) (o : Sound cfg s)
      (done : (outcome cfg (Tick ms frame present) b s).answer ≡ 0) where
    abbrev up_to : ℕ → State
    up_to = ticked_below cfg ms frame present s

    good_below : (n : ℕ) → n ≤ events cfg → MemoryGood cfg (up_to n)
    good_below n h =
        (below_going cfg (ticks_keep cfg (config_tells cfg configured) ms frame present framed s) o n h).sound.memory

    turn_fate : (n : ℕ) → n < events cfg → (t : Bool) → tick_moves cfg present s.board n ≡ t → (y : Entry)
        → Memᴰ y (entries cfg (up_to n))
        → Fate cfg b s (Tick ms frame present) (entries cfg (cond t (ticks cfg ms frame n (up_to n)) (up_to n))) y
    turn_fate n h true q =
        part_fate frame framed n h _ (up_to n) (good_below n (omega arith))
        (λ v f. in_tick ms frame present n done h q v f)
    turn_fate n h false q = λ y m. stays m

    turn_origin : (n : ℕ) → n < events cfg → (t : Bool) → tick_moves cfg present s.board n ≡ t
        → ((x : Entry) → Memᴰ x (entries cfg (up_to n)) → Origin cfg b s (Tick ms frame present) x)
        → (y : Entry) → Memᴰ y (entries cfg (cond t (ticks cfg ms frame n (up_to n)) (up_to n)))
        → Origin cfg b s (Tick ms frame present) y
    turn_origin n h true q =
        part_origin frame framed n h _ (up_to n) (good_below n (omega arith))
        (λ v f. in_tick ms frame present n done h q v f)
    turn_origin n h false q = λ old. old

    below_fate : (n : ℕ) → n ≤ events cfg → (x : Entry) → Memᴰ x (entries cfg s)
        → Fate cfg b s (Tick ms frame present) (entries cfg (up_to n)) x
    unfolding for_below
    below_fate zero h x m = stays m
    below_fate (suc n) h x m =
        fate_then (turn_fate n h (tick_moves cfg present s.board n) refl) (below_fate n (omega arith) x m)

    below_origin : (n : ℕ) → n ≤ events cfg → (y : Entry) → Memᴰ y (entries cfg (up_to n))
        → Origin cfg b s (Tick ms frame present) y
    unfolding for_below
    below_origin zero h y m = was_there m
    below_origin (suc n) h y m =
        turn_origin n h (tick_moves cfg present s.board n) refl (below_origin n (omega arith)) y m

  -- ---- calls that only let entries leave

  -- these stay, in their order, and nothing comes
  module _ {b : Beside} {s : State} {c : Call} (out : ℕ → Bool) (xs : List Entry)
      (q : xs ≡ those (λ x. not (out (event_of x))) (entries cfg s)) where
    leaving_fate : ((x : Entry) → out (event_of x) ≡ true → Fate cfg b s c xs x) → (x : Entry)
        → Memᴰ x (entries cfg s) → Fate cfg b s c xs x
    leaving_fate f x m = go (out (event_of x)) refl
      where
        go : (t : Bool) → out (event_of x) ≡ t → Fate cfg b s c xs x
        go true h = f x h
        go false h =
            stays (subst (Memᴰ x) (sym q) (mem_those (λ x. not (out (event_of x))) (entries cfg s) x (ap not h) m))

    leaving_origin : (y : Entry) → Memᴰ y xs → Origin cfg b s c y
    leaving_origin y m = was_there (those_mem (λ x. not (out (event_of x))) (entries cfg s) y (rw q at m))

  -- "at A the event ages: …, its entry leaves memory": after a stop the entries are those whose event did not age
  pub stop_entries : (c : ℕ) (b : Beside) (s : State) → first_that_applies (stop_rules cfg c b s) ≡ 0
      → entries cfg (for_those cfg (of_cycle cfg c) (stops cfg) s)
      ≡ those (λ x. not (ages_in cfg c s (event_of x))) (entries cfg s)
  unfolding stop_rules
  stop_entries c b s z =
      those_stay cfg (acts_stops cfg) (ages_by cfg) (stops_entries cfg) s
      (stops_keep cfg (config_tells cfg (not-false _ (none_applies _ z refl 0))) c s)
      (sound cfg s (judged_formed cfg b s (none_applies _ z refl 1)))

  -- "each covered event …, its entry leaves": after a clear the entries are those whose event is not covered
  pub clear_entries : (code : ℕ) (b : Beside) (s : State) → first_that_applies (clear_rules cfg code b s) ≡ 0
      → entries cfg (cleared cfg code s) ≡ those (λ x. not (covers cfg code (event_of x))) (entries cfg s)
  unfolding clear_rules cleared
  clear_entries code b s z =
      those_stay cfg (acts_clears cfg) (λ e v. true) (clears_entries cfg) s
      (clears_keep cfg (config_tells cfg (not-false _ (none_applies _ z refl 0))) code s)
      (sound cfg s (judged_formed cfg b s (none_applies _ z refl 1)))
      ∙ simp and_true

  -- a start changes no entry
  pub start_entries : (c : ℕ) (s : State)
      → entries cfg (for_those cfg (of_cycle cfg c) (happens cfg start) s) ≡ entries cfg s
  unfolding for_those happens
  start_entries c s =
      for_below_keeps (λ (t : State). entries cfg t ≡ entries cfg s) _ (events cfg) (events cfg) (le_refl (events cfg))
      (λ k t h q. by (of_cycle cfg c k) (λ (t : State). entries cfg t ≡ entries cfg s) (λ r. q) (λ r. q)) s refl

  -- ---- every call

  does_fate : (c : Call) (b : Beside) (s t : State) → Does cfg b s c t → (outcome cfg c b s).answer ≡ 0 → (x : Entry)
      → Memᴰ x (entries cfg s) → Fate cfg b s c (entries cfg t) x
  unfolding report_rules tick_rules for_those
  does_fate _ b s _ (a_report k code frame present z) a =
      part_fate frame (eqb-true _ _ (not-false _ (none_applies _ z refl 5))) k (leb-false _ _ (none_applies _ z refl 2))
      _ s
      (sound cfg s (judged_formed cfg b s (none_applies _ z refl 1))).memory (in_report k code frame present a)
  does_fate _ b s _ (a_tick ms frame present z) a =
      below_fate ms frame present b s (eqb-true _ _ (not-false _ (none_applies _ z refl 3)))
      (not-false _ (none_applies _ z refl 0))
      (sound cfg s (judged_formed cfg b s (none_applies _ z refl 1))) a (events cfg) (le_refl (events cfg))
  does_fate _ b s _ (a_start c z) a = λ x m. stays (subst (Memᴰ x) (sym (start_entries c s)) m)
  does_fate _ b s _ (a_stop c z) a =
      leaving_fate (ages_in cfg c s) _ (stop_entries c b s z) (λ x q. is_aged (at_stop c (event_of x) a q))
  does_fate _ b s _ (a_clear code z) a =
      leaving_fate (covers cfg code) _ (clear_entries code b s z) (λ x q. is_cleared (by_clear code (event_of x) a q))
  does_fate _ b s _ (a_request bytes q z) a =
      leaving_fate (covers cfg (three_at 1 bytes)) _ (clear_entries (three_at 1 bytes) b s z)
      (λ x r. is_cleared (by_request bytes (event_of x) a q r))
  does_fate _ b s _ (a_reading c r) a = λ x m. stays m

  does_origin : (c : Call) (b : Beside) (s t : State) → Does cfg b s c t → (outcome cfg c b s).answer ≡ 0 → (y : Entry)
      → Memᴰ y (entries cfg t) → Origin cfg b s c y
  unfolding report_rules tick_rules for_those
  does_origin _ b s _ (a_report k code frame present z) a =
      part_origin frame (eqb-true _ _ (not-false _ (none_applies _ z refl 5))) k
      (leb-false _ _ (none_applies _ z refl 2)) _ s
      (sound cfg s (judged_formed cfg b s (none_applies _ z refl 1))).memory
      (in_report k code frame present a) (λ x m. was_there m)
  does_origin _ b s _ (a_tick ms frame present z) a =
      below_origin ms frame present b s (eqb-true _ _ (not-false _ (none_applies _ z refl 3)))
      (not-false _ (none_applies _ z refl 0))
      (sound cfg s (judged_formed cfg b s (none_applies _ z refl 1))) a (events cfg) (le_refl (events cfg))
  does_origin _ b s _ (a_start c z) a = λ y m. was_there (rw (start_entries c s) at m)
  does_origin _ b s _ (a_stop c z) a = leaving_origin (ages_in cfg c s) _ (stop_entries c b s z)
  does_origin _ b s _ (a_clear code z) a = leaving_origin (covers cfg code) _ (clear_entries code b s z)
  does_origin _ b s _ (a_request bytes q z) a =
      leaving_origin (covers cfg (three_at 1 bytes)) _ (clear_entries (three_at 1 bytes) b s z)
  does_origin _ b s _ (a_reading c r) a = λ y m. was_there m

  module _ (c : Call) (b : Beside) (s : State) (goes_on : carries_on cfg c b s ≡ true) where
    -- what becomes of every entry that memory held before the call
    pub fate_of_each : (x : Entry) → Memᴰ x (entries cfg s)
        → Fate cfg b s c (entries cfg (outcome cfg c b s).state) x
    fate_of_each x m = go (call_does cfg c b s goes_on)
      where
        go : Either (Does cfg b s c) s (outcome cfg c b s) → Fate cfg b s c (entries cfg (outcome cfg c b s).state) x
        go (inl (n, p)) = stays (subst (λ (t : State). Memᴰ x (entries cfg t)) (sym p) m)
        go (inr (a, d)) = does_fate c b s _ d a x m

    -- where every entry comes from that memory holds after the call
    pub origin_of_each : (y : Entry) → Memᴰ y (entries cfg (outcome cfg c b s).state) → Origin cfg b s c y
    origin_of_each y m = go (call_does cfg c b s goes_on)
      where
        go : Either (Does cfg b s c) s (outcome cfg c b s) → Origin cfg b s c y
        go (inl (n, p)) = was_there (rw p at m)
        go (inr (a, d)) = does_origin c b s _ d a y m
