-- The log against the entries: in each part of a call and in each call, and of each event by itself, the entries after
-- it and those that left are the entries before it and those admitted.
use mathlib.Core.Path.{◌≡◌, refl, sym, ap, subst, ◌∙◌}
use mathlib.Core.Logic.{inl, inr}
use mathlib.Core.Bool.{Bool, true, false, ◌&&◌, cond}
use mathlib.Core.List.{List, [], ◌∷◌, ◌++◌}
use mathlib.Core.Option.{Option, none, some}
use Prim.Native.Nat.{ℕ, zero, suc, ◌+◌, ◌≤◌, ◌<◌, min}
use native.Mathlib.Nat.{le_refl}
use native.Mathlib.Omega.{arith}
use lib.Dec.{eqb}
use lib.ListN.{length}
use borrow.Author.Tests.{eqb-true, ne_eqb, leb-false, not-true, not-false}
use Rattle.history.specs.Words.{any_of}
use Rattle.history.specs.StatusByte.{fresh_failure, ages_at_stop}
use Rattle.history.specs.History.{failed}
use Rattle.manual.specs.declared.Verdict.{Verdict}
use Rattle.manual.specs.declared.Verdict.TheVariants.{None, Passed, Failed}
use Rattle.manual.specs.declared.StoreAnswer.TheVariants.{Untold}
use Rattle.manual.specs.Words.{for_below, first_of, count_those, three_at}
use Rattle.manual.specs.Configuration.{Configuration, events, places, frame_bytes, priority_of, limits_of, config_ok}
use Rattle.manual.specs.State.{State, record_of, D, with_d}
use Rattle.manual.specs.Debouncing.{Debounced, ticked}
use Rattle.manual.specs.Memory.{Entry, event_of, entry_of, payload_of, renewed_payload, is_of, without, no_twice, store}
use Rattle.manual.specs.WellFormed.{entries, well_formed}
use Rattle.manual.specs.Answers.{Beside, Outcome}
use Rattle.manual.specs.OneEvent.{has_entry, happens, is_quiet, stored_for, memory_told}
use Rattle.manual.specs.OneEvent.{fails, fails_did, qualifies, qualifies_did, stops, clears, for_those}
use Rattle.manual.specs.Calls.{applied, applied_did, debounced_by, report_rules, report_log, tick_moves}
use Rattle.manual.specs.Calls.{ticks, ticks_did, tick_rules, tick_log, of_cycle, stop_rules, stop_log, cleared}
use Rattle.manual.specs.Calls.{clear_rules, clear_log}
use Rattle.manual.specs.Counts.{Happening, has_aged, was_cleared, of_store, log_below, log_those, leaves_log, stops_log}
use Rattle.manual.specs.Counts.{clears_log, present_of, admissions_of, leavings_of, is_admission, is_leaving, event_in}
use Rattle.manual.specs.Counts.{present_log, Accounts}
use Rattle.manual.specs.Sequences.{Call, Fresh, Report, Tick, Start, Stop, Clear, Read, Restore, Request}
use Rattle.manual.specs.Sequences.{outcome, log_of, log_at, carries_on}
use Rattle.manual.specs.Diagnostics.{asks_clear}
use Rattle.manual.proofs.WordsLaws.{clash, First, first_is, first_none, first_some, those_all, count_append}
use Rattle.manual.proofs.WordsLaws.{count_taken, count_swapped}
use Rattle.manual.proofs.AnswersLaws.{none_applies}
use Rattle.manual.proofs.ConfigurationLaws.{config_tells}
use Rattle.manual.proofs.MemoryLaws.{event_is, without_is, store_cases}
use Rattle.manual.proofs.MemoryStaysGood.{MemoryGood, good_d}
use Rattle.manual.proofs.WellFormedLaws.{judged_formed}
use Rattle.manual.proofs.SoundStates.{Sound, sound}
use Rattle.manual.proofs.StaysWellFormed.{Keeps, below_going, ticks_keep, stops_keep, clears_keep}
use Rattle.manual.proofs.EntriesInACallLaws.{told_entries, stops_entries, clears_entries}
use Rattle.manual.proofs.SequencesLaws.{Does, a_report, a_tick, a_start, a_stop, a_clear}
use Rattle.manual.proofs.SequencesLaws.{a_request, a_reading, Either, call_does, only_reads}
use Rattle.manual.proofs.OnlyTheNamedEntryLeavesInEveryCall.{start_entries}

-- of the events that pass a test
module _ (p : ℕ → Bool) where
  -- 1 for an event that passes
  abbrev one : ℕ → ℕ
  one e = cond (p e) 1 0

  -- nothing happened
  pub accounts_none : (xs : List Entry) → Accounts p [] xs xs
  unfolding count_those
  accounts_none xs = refl

  -- one log, and then another
  pub accounts_then : (a b : List Happening) (xs ys zs : List Entry) → Accounts p a xs ys → Accounts p b ys zs
      → Accounts p (b ++ a) xs zs
  accounts_then a b xs ys zs q r =
      omega (
        arith,
        q,
        r,
        count_append (λ h. is_admission h && p (event_in h)) b a,
        count_append (λ h. is_leaving h && p (event_in h)) b a,
      )

  -- the entries present, each admitted
  pub present_accounts : (xs : List Entry) → Accounts p (present_log xs) [] xs
  unfolding count_those
  present_accounts [] = refl
  present_accounts (x ∷ xs) = omega (arith, present_accounts xs)

  -- ---- an entry leaves

  without_accounts : (e : ℕ) (xs : List Entry) → no_twice xs ≡ true
      → present_of p (without e xs) + cond (any_of (is_of e) xs) (one e) 0 ≡ present_of p xs
  unfolding without
  without_accounts e xs once = go (first_of (is_of e) xs) refl
    where
      go : (o : Option Entry) → first_of (is_of e) xs ≡ o
          → present_of p (without e xs) + cond (any_of (is_of e) xs) (one e) 0 ≡ present_of p xs
      go none q =
          let gone = first_none (is_of e) xs q in rw (gone, those_all (is_of e) xs gone) (omega arith)
      go (some v) q =
          let f = first_is (is_of e) xs v q in
          let is : event_of v ≡ e = eqb-true (event_of v) e f.passes in
          let left : without e xs ≡ f.older ++ f.newer =
          ap (λ (k : ℕ). without k xs) (sym is) ∙ without_is xs f.older v f.newer f.there once in
          rw (first_some (is_of e) xs v q)
          (omega (
            arith,
            ap (present_of p) left,
            ap one is,
            count_taken xs f.older v f.newer f.there (λ x. p (event_of x)),
          ))

  -- ---- a store

  store_accounts : (M : ℕ) (priority : ℕ → ℕ) (quiet : ℕ → Bool) (e : ℕ) (frame : List ℕ) (xs : List Entry)
      → no_twice xs ≡ true
      → Accounts p (of_store e (store M priority quiet e frame xs).did) xs (store M priority quiet e frame xs).entries
  unfolding count_those
  store_accounts M priority quiet e frame xs once =
      store_cases M priority quiet e frame xs once (λ k. Accounts p (of_store e k.did) xs k.entries)
      (λ x f. omega (
        arith,
        swapped f (entry_of e (min 255 (suc x.count)) (renewed_payload x.payload frame)),
        ap one (eqb-true (event_of x) e f.passes),
        own (min 255 (suc x.count)) (renewed_payload x.payload frame),
      ))
      (λ n l. omega
      (arith, count_append (λ x. p (event_of x)) xs (entry_of e 1 (payload_of frame) ∷ []), own 1 (payload_of frame)))
      (λ n l v f. omega (arith, swapped f (entry_of e 1 (payload_of frame)), own 1 (payload_of frame)))
      (λ n l t v f. omega (arith, swapped f (entry_of e 1 (payload_of frame)), own 1 (payload_of frame)))
      (λ n l t r. omega arith)
    where
      own : (c : ℕ) (payload : List ℕ) → one (event_of (entry_of e c payload)) ≡ one e
      own c payload = ap one (event_is e c payload)

      swapped : {t : Entry → Bool} {v : Entry} (f : First t xs v) (y : Entry)
          → present_of p (f.older ++ f.newer ++ (y ∷ [])) + one (event_of v)
          ≡ present_of p xs + one (event_of y)
      swapped {v = v} f y = count_swapped xs f.older v f.newer f.there (λ x. p (event_of x)) y

  module _ (cfg : Configuration) where
    -- ---- one part of a call

    -- a part and its log
    abbrev Told : List Happening → State → State → Type 0
    Told log u u' = Accounts p log (entries cfg u) (entries cfg u')

    applied_accounts : (frame : List ℕ) → length frame ≡ frame_bytes cfg → (k : ℕ) → k < events cfg → (d : Debounced)
        (u : State) → MemoryGood cfg u
        → Told (of_store k (applied_did cfg frame k d u)) u (applied cfg frame k d u)
    unfolding applied applied_did fails fails_did happens
    applied_accounts frame framed k below d u m = go d.verdict
      where
        u' : State
        u' = with_d k d.number u

        afresh : (b : Bool)
            → Told (of_store k (cond b (stored_for cfg frame k (happens cfg failed k u')).did Untold)) u
            (cond b (memory_told cfg frame k (happens cfg failed k u')) (happens cfg failed k u'))
        afresh true =
            subst (Accounts p _ (entries cfg u))
            (sym (told_entries cfg frame k framed below u' (good_d cfg k d.number u m)))
            (store_accounts (places cfg) (priority_of cfg) (is_quiet cfg (happens cfg failed k u)) k frame (entries cfg u)
            m.good.once)
        afresh false = accounts_none (entries cfg u)

        go : (v : Verdict) → Told (of_store k (qualifies_did cfg frame k v u')) u (qualifies cfg frame k v u')
        go None = accounts_none (entries cfg u)
        go Passed = accounts_none (entries cfg u)
        go Failed = afresh (fresh_failure (record_of u k))

    -- how an entry leaves
    record Leaves (how : ℕ → Happening) : Type 0 where
      leaving : (e : ℕ) → leavings_of p (how e ∷ []) ≡ one e
      no_admission : (e : ℕ) → admissions_of p (how e ∷ []) ≡ 0

    ages : Leaves has_aged
    unfolding count_those
    ages = record { leaving = λ e. omega arith; no_admission = λ e. refl }

    clearing : Leaves was_cleared
    unfolding count_those
    clearing = record { leaving = λ e. omega arith; no_admission = λ e. refl }

    leaves_accounts : (how : ℕ → Happening) → Leaves how → (k : ℕ) (u : State) → MemoryGood cfg u
        → Accounts p (leaves_log cfg how k u) (entries cfg u) (without k (entries cfg u))
    leaves_accounts how l k u m =
        go (has_entry cfg u k) (without_accounts k (entries cfg u) m.good.once)
      where
        go : (b : Bool)
            → present_of p (without k (entries cfg u)) + cond b (one k) 0 ≡ present_of p (entries cfg u)
            → Accounts p (cond b (how k ∷ []) []) (entries cfg u) (without k (entries cfg u))
        go true q = omega (arith, q, l.leaving k, l.no_admission k)
        go false q = unfold count_those in omega (arith, q)

    stops_accounts : (k : ℕ) (u : State) → MemoryGood cfg u → Told (stops_log cfg k u) u (stops cfg k u)
    stops_accounts k u m =
        subst (Accounts p (stops_log cfg k u) (entries cfg u)) (sym (stops_entries cfg k u m))
        (go (ages_at_stop (limits_of cfg k) (record_of u k)))
      where
        go : (b : Bool)
            → Accounts p (cond b (leaves_log cfg has_aged k u) []) (entries cfg u)
            (cond b (without k (entries cfg u)) (entries cfg u))
        go true = leaves_accounts has_aged ages k u m
        go false = accounts_none (entries cfg u)

    clears_accounts : (k : ℕ) (u : State) → MemoryGood cfg u → Told (clears_log cfg k u) u (clears cfg k u)
    clears_accounts k u m =
        subst (Accounts p (clears_log cfg k u) (entries cfg u)) (sym (clears_entries cfg k u m))
        (leaves_accounts was_cleared clearing k u m)

    -- ---- the parts of a call, one after the other

    module _ {q : ℕ → Bool} {act : ℕ → State → State} {s : State} (g : ℕ → State → List Happening)
        (keeps : Keeps cfg q act s) (o : Sound cfg s)
        (part : (k : ℕ) (u : State) → k < events cfg → MemoryGood cfg u → Told (g k u) u (act k u)) where
      abbrev up_to : ℕ → State
      up_to n = for_below n (λ e u. cond (q e) (act e u) u) s

      abbrev log_to : ℕ → List Happening
      log_to n = log_below n (λ e u. cond (q e) (act e u) u) (λ e u. cond (q e) (g e u) []) s

      turn_accounts : (n : ℕ) → n < events cfg → (b : Bool)
          → Told (cond b (g n (up_to n)) []) (up_to n) (cond b (act n (up_to n)) (up_to n))
      turn_accounts n h true = part n (up_to n) h (below_going cfg keeps o n (omega arith)).sound.memory
      turn_accounts n h false = accounts_none (entries cfg (up_to n))

      below_accounts : (n : ℕ) → n ≤ events cfg → Told (log_to n) s (up_to n)
      unfolding for_below log_below
      below_accounts zero h = accounts_none (entries cfg s)
      below_accounts (suc n) h =
          accounts_then (log_to n) (cond (q n) (g n (up_to n)) []) (entries cfg s) (entries cfg (up_to n)) _
          (below_accounts n (omega arith)) (turn_accounts n h (q n))

      pub those_accounts : Told (log_those cfg q act g s) s (for_those cfg q act s)
      unfolding for_those
      those_accounts = below_accounts (events cfg) (le_refl (events cfg))

    -- ---- each call

    module _ (configured : config_ok cfg ≡ true) (s : State) (formed : well_formed cfg s ≡ true) where
      pub report_accounts : (k code : ℕ) (frame : List ℕ) → length frame ≡ frame_bytes cfg → k < events cfg
          → Told (report_log cfg k code frame s) s (applied cfg frame k (debounced_by cfg k code s) s)
      unfolding report_log
      report_accounts k code frame framed below =
          applied_accounts frame framed k below (debounced_by cfg k code s) s (sound cfg s formed).memory

      pub tick_accounts : (ms : ℕ) (frame : List ℕ) (present : ℕ) → length frame ≡ frame_bytes cfg
          → Told (tick_log cfg ms frame present s) s
          (for_those cfg (tick_moves cfg present s.board) (ticks cfg ms frame) s)
      unfolding tick_log
      tick_accounts ms frame present framed =
          those_accounts (λ e u. of_store e (ticks_did cfg ms frame e u))
          (ticks_keep cfg (config_tells cfg configured) ms frame present framed s) (sound cfg s formed)
          (λ k u h m. applied_accounts frame framed k h (ticked cfg k ms (D u k)) u m)

      pub stop_accounts : (c : ℕ) → Told (stop_log cfg c s) s (for_those cfg (of_cycle cfg c) (stops cfg) s)
      unfolding stop_log
      stop_accounts c =
          those_accounts (stops_log cfg) (stops_keep cfg (config_tells cfg configured) c s) (sound cfg s formed)
          (λ k u h m. stops_accounts k u m)

      pub clear_accounts : (code : ℕ) → Told (clear_log cfg code s) s (cleared cfg code s)
      unfolding clear_log cleared
      clear_accounts code =
          those_accounts (clears_log cfg) (clears_keep cfg (config_tells cfg configured) code s) (sound cfg s formed)
          (λ k u h m. clears_accounts k u m)

    reading_accounts : (c : Call) (s : State) → only_reads cfg c ≡ true → Told (log_of cfg c s) s s
    reading_accounts Fresh s r = clash true refl (sym r)
    reading_accounts (Report e code frame present) s r = clash true refl (sym r)
    reading_accounts (Tick ms frame present) s r = clash true refl (sym r)
    reading_accounts (Start c) s r = clash true refl (sym r)
    reading_accounts (Stop c) s r = clash true refl (sym r)
    reading_accounts (Clear code) s r = clash true refl (sym r)
    reading_accounts (Read q) s r = accounts_none (entries cfg s)
    reading_accounts (Restore image) s r = clash true refl (sym r)
    reading_accounts (Request bytes) s r = rw (not-true (asks_clear cfg bytes) r) (accounts_none (entries cfg s))

    does_accounts : (c : Call) (b : Beside) (s t : State) → Does cfg b s c t → Told (log_of cfg c s) s t
    unfolding report_rules tick_rules stop_rules clear_rules
    does_accounts _ b s _ (a_report k code frame present z) =
        report_accounts (not-false _ (none_applies _ z refl 0)) s (judged_formed cfg b s (none_applies _ z refl 1))
        k code frame (eqb-true _ _ (not-false _ (none_applies _ z refl 5))) (leb-false _ _ (none_applies _ z refl 2))
    does_accounts _ b s _ (a_tick ms frame present z) =
        tick_accounts (not-false _ (none_applies _ z refl 0)) s (judged_formed cfg b s (none_applies _ z refl 1))
        ms frame present (eqb-true _ _ (not-false _ (none_applies _ z refl 3)))
    does_accounts _ b s _ (a_start c z) =
        subst (Accounts p [] (entries cfg s)) (sym (start_entries cfg c s)) (accounts_none (entries cfg s))
    does_accounts _ b s _ (a_stop c z) =
        stop_accounts (not-false _ (none_applies _ z refl 0)) s (judged_formed cfg b s (none_applies _ z refl 1)) c
    does_accounts _ b s _ (a_clear code z) =
        clear_accounts (not-false _ (none_applies _ z refl 0)) s (judged_formed cfg b s (none_applies _ z refl 1)) code
    does_accounts _ b s _ (a_request bytes a z) =
        rw a
        (clear_accounts (not-false _ (none_applies _ z refl 0)) s (judged_formed cfg b s (none_applies _ z refl 1))
        (three_at 1 bytes))
    does_accounts _ b s _ (a_reading c r) = reading_accounts c s r

    -- every call, but for an accepted fresh or restore: a refused one has an empty log
    pub call_accounts : (c : Call) (b : Beside) (s : State) → carries_on cfg c b s ≡ true
        → Told (log_at cfg c b s) s (outcome cfg c b s).state
    call_accounts c b s g = go (outcome cfg c b s) (call_does cfg c b s g)
      where
        go : (o : Outcome) → Either (Does cfg b s c) s o
            → Told (cond (eqb o.answer 0) (log_of cfg c s) []) s o.state
        go o (inl (n, q)) =
            rw (ne_eqb o.answer 0 n)
            (subst (λ (t : State). Told [] s t) (sym q) (accounts_none (entries cfg s)))
        go o (inr (z, d)) = rw z (does_accounts c b s o.state d)
