-- Every call, with any configuration and any arguments, accepted or refused, leaves any well-formed state well formed;
-- and an accepted fresh or restore makes a well-formed state of any blocks.
use mathlib.Core.Path.{◌≡◌, refl, sym, ap, subst, ◌∙◌}
use mathlib.Core.Logic.{inl, inr}
use mathlib.Core.Bool.{Bool, true, false, not, ◌&&◌, cond}
use mathlib.Core.List.{List, [], ◌∷◌}
use Prim.Native.Nat.{ℕ, suc, ◌-◌, ◌*◌, ◌≤◌, ◌<◌}
use native.Mathlib.Nat.{mul_comm, le_refl}
use native.Mathlib.Omega.{arith}
use lib.Dec.{eqb}
use lib.ListN.{length, get_or, set, replicate, get_or-replicate}
use lib.Seq.{get_or-set_other}
use lib.IntN.{ℤ, pos}
use borrow.Author.Tests.{eqb-true, eqb-false, leb-false, not-false}
use Rattle.history.specs.StatusByte.{EventRecord, fresh_record, fresh_failure}
use Rattle.history.specs.History.{Token, passed, failed, start, stop, clear, step}
use Rattle.history.proofs.WordsLaws.{and_left, and_right}
use Rattle.history.proofs.RecordStaysWellFormed.{fresh_well_formed, step_well_formed}
use Rattle.manual.specs.declared.Board.{Board}
use Rattle.manual.specs.declared.Verdict.{Verdict}
use Rattle.manual.specs.declared.Verdict.TheVariants.{None, Passed, Failed}
use Rattle.manual.specs.Configuration.{Configuration, events, places, frame_bytes, entry_frames}
use Rattle.manual.specs.Configuration.{cycle_of, is_time, limits_of, config_ok}
use Rattle.manual.specs.State.{State, Stored, opened, stored, stored_at, record_of}
use Rattle.manual.specs.State.{runs, D, with_d, with_memory, with_board, with_cycle}
use Rattle.manual.specs.Debouncing.{Debounced, reported, ticked}
use Rattle.manual.specs.Memory.{entry_width, memory_length}
use Rattle.manual.specs.Memory.{entries_bytes, memory_of, no_twice}
use Rattle.manual.specs.WellFormed.{record_ok, d_ok, well_formed}
use Rattle.manual.specs.OneEvent.{happens, memory_told, fails, qualifies, stops, clears, for_those}
use Rattle.manual.specs.Answers.{Beside, Outcome, Rule, ◌if◌, first_that_applies}
use Rattle.manual.specs.Conditions.{enabled}
use Rattle.manual.specs.Calls.{fresh_state, fresh_rules, fresh, cycle_runs, report_rules, applied, tick_rules}
use Rattle.manual.specs.Calls.{time_runs, tick_moves, ticks, of_cycle, start_rules, stop_rules, covers, cleared}
use Rattle.manual.specs.Calls.{clear_rules}
use Rattle.manual.specs.Image.{restore}
use Rattle.manual.specs.Sequences.{Call, Fresh, Report, Tick, Start, Stop, Clear, Read}
use Rattle.manual.specs.Sequences.{Restore, Request, begins_anew, outcome, carries_on}
use Rattle.manual.specs.Words.{for_below, three_at}
use Rattle.manual.proofs.WordsLaws.{clash, by, for_below_keeps}
use Rattle.manual.proofs.AnswersLaws.{numbered, none_applies, accepted}
use Rattle.manual.proofs.ConfigurationLaws.{ConfigTells, config_tells}
use Rattle.manual.proofs.DebouncingLaws.{zero_ok, report_ok, tick_ok, stopped_zero, DOk-by-running}
use Rattle.manual.proofs.StateLaws.{opened_stored}
use Rattle.manual.proofs.OneEventLaws.{View, viewed, view, Acts, those_own, token_view, acts_happens, acts_d}
use Rattle.manual.proofs.OneEventLaws.{acts_memory_told, acts_stops, acts_clears, applied_running}
use Rattle.manual.proofs.MemoryStaysGood.{has_failed_bit, MemoryGood, made_good, bit_own, Keeps5, good_happens}
use Rattle.manual.proofs.MemoryStaysGood.{good_d, good_told, good_stops, good_clears}
use Rattle.manual.proofs.SoundStates.{EventGood, Sound, sound, sound_formed}
use Rattle.manual.proofs.AcceptedImages.{accepted_state}
use Rattle.manual.proofs.SaveAfterRestore.{restored_accepts, restored_state}
use Rattle.manual.proofs.SequencesLaws.{Does, a_report, a_tick, a_start, a_stop, a_clear}
use Rattle.manual.proofs.SequencesLaws.{a_request, a_reading, Either, call_does}
use Rattle.manual.proofs.FreshLaws.{fresh_sized, fresh_records_lem}

module _ (cfg : Configuration) where
  -- ---- a state on another board

  on_board : (b : Board) (s : State) → MemoryGood cfg s → ((e : ℕ) → e < events cfg → EventGood cfg b e (view s e))
      → Sound cfg (with_board b s)
  on_board b s m f =
      record {
        memory =
            record {
              sized = record { records = m.sized.records; debounce = m.sized.debounce };
              block = m.block;
              good = m.good;
            };
        events_good = f;
      }

  pub same_running : (b b' : Board) → b'.running ≡ b.running → (e : ℕ) (v : View) → EventGood cfg b e v
      → EventGood cfg b' e v
  same_running b b' r e v g =
      record {
        kept = g.kept;
        number = DOk-by-running cfg b b' e v.number (ap (λ (l : List Bool). get_or l (cycle_of cfg e) false) (sym r))
            g.number;
      }

  runs_as : (b b' : Board) (e : ℕ) → b'.running ≡ b.running → cycle_runs cfg b' e ≡ cycle_runs cfg b e
  runs_as b b' e r = ap (λ (l : List Bool). get_or l (cycle_of cfg e) false) r

  -- ---- from one event to all

  -- what is done to event k alone, where it leaves the memory in order and event k good
  acts_sound : {one : ℕ → State → State} {f : ℕ → View → View} → Acts cfg one f → (k : ℕ) (s : State) → k < events cfg
      → Sound cfg s
      → MemoryGood cfg (one k s) → EventGood cfg s.board k (f k (view s k)) → Sound cfg (one k s)
  acts_sound {one} acts k s h o m g = record {
    memory = m;
    events_good =
        λ e l. same_running s.board (one k s).board (acts.running k s) e (view (one k s) e)
        (each e l (eqb e k) refl);
  }
    where
      each : (e : ℕ) → e < events cfg → (b : Bool) → eqb e k ≡ b → EventGood cfg s.board e (view (one k s) e)
      each e l true q =
          subst (λ (j : ℕ). EventGood cfg s.board j (view (one k s) j)) (sym (eqb-true e k q))
          (subst (EventGood cfg s.board k) (sym (acts.own k s o.memory.sized h)) g)
      each e l false q = subst (EventGood cfg s.board e) (sym (acts.other k e s (eqb-false e k q)))
          (o.events_good e l)

  -- u is sound, and the same cycles run as in s
  pub record Going (s u : State) : Type 0 where
    pub sound : Sound cfg u
    pub running : u.board.running ≡ s.board.running

  -- one part of a call, for the events that pass a test: a state on its way from s stays sound, and no cycle starts or
  -- stops
  pub record Keeps (p : ℕ → Bool) (one : ℕ → State → State) (s : State) : Type 0 where
    pub sound : (k : ℕ) (u : State) → k < events cfg → p k ≡ true → u.board.running ≡ s.board.running → Sound cfg u
        → Sound cfg (one k u)
    pub running : (k : ℕ) (u : State) → (one k u).board.running ≡ u.board.running

  module _ {p : ℕ → Bool} {one : ℕ → State → State} {s : State} (keeps : Keeps p one s) (o : Sound cfg s) where
    pub below_going : (n : ℕ) → n ≤ events cfg → Going s (for_below n (λ e u. cond (p e) (one e u) u) s)
    below_going n h =
        for_below_keeps (Going s) (λ e u. cond (p e) (one e u) u) (events cfg) n h
        (λ k u l g. by (p k) (Going s)
        (λ q.
        record { sound = keeps.sound k u l q g.running g.sound; running = keeps.running k u ∙ g.running })
        (λ q. g))
        s (record { sound = o; running = refl })

    pub those_going : Going s (for_those cfg p one s)
    unfolding for_those
    those_going = below_going (events cfg) (le_refl (events cfg))

  module _ (t : ConfigTells cfg) where
    -- ---- what a step does to one event

    record_kept : (k : Token) (e : ℕ) → e < events cfg → (r : Stored) → record_ok cfg e (opened r) ≡ true
        → record_ok cfg e (opened (stored (step (limits_of cfg e) k (opened r)))) ≡ true
    record_kept k e h r o =
        subst (λ (x : EventRecord). record_ok cfg e x ≡ true) (sym (opened_stored (step (limits_of cfg e) k (opened r))))
        (step_well_formed (limits_of cfg e) (t.row e h).limits k (opened r) o)

    zero_good : (b : Board) (e : ℕ) → e < events cfg → d_ok cfg b e (pos 0) ≡ true
    zero_good b e h = zero_ok cfg b e (t.row e h).range

    -- the record takes a token, and D is 0
    reset_good : (k : Token) (b : Board) (e : ℕ) → e < events cfg → (v : View)
        → record_ok cfg e (opened v.stored) ≡ true → EventGood cfg b e (viewed (token_view cfg k e v).stored (pos 0))
    reset_good k b e h v o = record { kept = record_kept k e h v.stored o; number = zero_good b e h }

    -- ---- one part of a call: what it does to one event of a sound state leaves a sound state

    happens_sound : (k : Token) → Keeps5 cfg k → (e : ℕ) (s : State) → e < events cfg → Sound cfg s
        → Sound cfg (happens cfg k e s)
    happens_sound k keep e s h o =
        let g = o.events_good e h in
        acts_sound (acts_happens cfg k) e s h o (good_happens cfg k keep e s h o.memory)
        (record { kept = record_kept k e h (stored_at e s.records) g.kept; number = g.number })

    number_sound : (e : ℕ) (d : ℤ) (s : State) → e < events cfg → d_ok cfg s.board e d ≡ true → Sound cfg s
        → Sound cfg (with_d e d s)
    number_sound e d s h ok o =
        acts_sound (acts_d cfg d) e s h o (good_d cfg e d s o.memory)
        (record { kept = (o.events_good e h).kept; number = ok })

    pub starts_sound : (e : ℕ) (s : State) → e < events cfg → Sound cfg s → Sound cfg (happens cfg start e s)
    starts_sound = happens_sound start (λ n r q. q)

    pub stops_sound : (e : ℕ) (s : State) → e < events cfg → Sound cfg s → Sound cfg (stops cfg e s)
    stops_sound e s h o =
        acts_sound (acts_stops cfg) e s h o (good_stops cfg e s h o.memory)
        (reset_good stop s.board e h (view s e) (o.events_good e h).kept)

    pub clears_sound : (e : ℕ) (s : State) → e < events cfg → Sound cfg s → Sound cfg (clears cfg e s)
    clears_sound e s h o =
        acts_sound (acts_clears cfg) e s h o (good_clears cfg e s h o.memory)
        (reset_good clear s.board e h (view s e) (o.events_good e h).kept)

    module _ (frame : List ℕ) (framed : length frame ≡ frame_bytes cfg) (e : ℕ) (h : e < events cfg) where
      told_sound : (s : State) → has_failed_bit cfg s e ≡ true → Sound cfg s → Sound cfg (memory_told cfg frame e s)
      told_sound s five o =
          acts_sound (acts_memory_told cfg frame) e s h o (good_told cfg frame e s framed h five o.memory)
          (o.events_good e h)

      fails_sound : (s : State) → Sound cfg s → Sound cfg (fails cfg frame e s)
      unfolding fails
      fails_sound s o =
          let o' = happens_sound failed (λ n r q. refl) e s h o in
          by (fresh_failure (record_of s e)) (Sound cfg)
          (λ q. told_sound (happens cfg failed e s) (bit_own cfg failed e s o.memory.sized h) o') (λ q. o')

      qualifies_sound : (w : Verdict) (s : State) → Sound cfg s → Sound cfg (qualifies cfg frame e w s)
      qualifies_sound None s o = o
      qualifies_sound Passed s o = happens_sound passed (λ n r q. q) e s h o
      qualifies_sound Failed s o = fails_sound s o

      applied_sound : (d : Debounced) (s : State) → d_ok cfg s.board e d.number ≡ true → Sound cfg s
          → Sound cfg (applied cfg frame e d s)
      unfolding applied
      applied_sound d s ok o =
          qualifies_sound d.verdict (with_d e d.number s) (number_sound e d.number s h ok o)

      pub reports_sound : (code : ℕ) (s : State) → cycle_runs cfg s.board e ≡ true → Sound cfg s
          → Sound cfg (applied cfg frame e (reported cfg e code (D s e)) s)
      reports_sound code s on o =
          applied_sound (reported cfg e code (D s e)) s
          (report_ok cfg s.board e (t.row e h).range on code (D s e) (o.events_good e h).number) o

      pub ticks_sound : (ms : ℕ) (s : State) → time_runs cfg s.board e ≡ true → Sound cfg s
          → Sound cfg (ticks cfg ms frame e s)
      ticks_sound ms s on o =
          let time = and_left (is_time cfg e) (cycle_runs cfg s.board e) on in
          let runs = and_right (is_time cfg e) (cycle_runs cfg s.board e) on in
          applied_sound (ticked cfg e ms (D s e)) s
          (tick_ok cfg s.board e (t.row e h).range runs time ms (D s e) (o.events_good e h).number) o

    -- ---- report

    report_sound : (k code : ℕ) (frame : List ℕ) (present : ℕ) (b : Beside) (s : State) → Sound cfg s
        → first_that_applies (report_rules cfg k code frame present b s) ≡ 0
        → Sound cfg (applied cfg frame k (reported cfg k code (D s k)) s)
    unfolding report_rules
    report_sound k code frame present b s o z =
        reports_sound frame (eqb-true _ _ (not-false _ (none_applies _ z refl 5))) k
        (leb-false _ _ (none_applies _ z refl 2)) code s (not-false _ (none_applies _ z refl 6)) o

    -- ---- tick

    pub ticks_keep : (ms : ℕ) (frame : List ℕ) (present : ℕ) → length frame ≡ frame_bytes cfg → (s : State)
        → Keeps (tick_moves cfg present s.board) (ticks cfg ms frame) s
    ticks_keep ms frame present framed s = record {
      sound =
          λ k u h q r o. ticks_sound frame framed k h ms u
          (subst (λ (b : Bool). is_time cfg k && b ≡ true) (runs_as u.board s.board k (sym r))
          (and_left (time_runs cfg s.board k) (enabled cfg present k) q)) o;
      running = λ k u. applied_running cfg frame k _ u;
    }

    tick_sound : (ms : ℕ) (frame : List ℕ) (present : ℕ) (b : Beside) (s : State) → Sound cfg s
        → first_that_applies (tick_rules cfg ms frame present b s) ≡ 0
        → Sound cfg (for_those cfg (tick_moves cfg present s.board) (ticks cfg ms frame) s)
    unfolding tick_rules
    tick_sound ms frame present b s o z =
        (those_going (ticks_keep ms frame present (eqb-true _ _ (not-false _ (none_applies _ z refl 3))) s) o).sound

    -- ---- start and stop

    -- the board of a cycle's start or stop, and events of other cycles on it
    abbrev turned : ℕ → Bool → State → Board
    turned c b s = record { running = set s.board.running c b; overflow = s.board.overflow }

    other_cycle : (c : ℕ) (b : Bool) (s : State) (e : ℕ) → of_cycle cfg c e ≡ false → (v : View)
        → EventGood cfg s.board e v → EventGood cfg (turned c b s) e v
    other_cycle c b s e q v g = record {
      kept = g.kept;
      number =
          DOk-by-running cfg s.board (turned c b s) e v.number
          (sym (get_or-set_other s.board.running c (cycle_of cfg e) b false (eqb-false (cycle_of cfg e) c q)))
          g.number;
    }

    -- cycle c turned, where its events have D 0, which is right on every board
    turned_sound : (c : ℕ) (b : Bool) (s : State) → Sound cfg s
        → ((e : ℕ) → e < events cfg → of_cycle cfg c e ≡ true → D s e ≡ pos 0) → Sound cfg (with_cycle c b s)
    turned_sound c b s o zero = on_board (turned c b s) s o.memory (λ e h. each e h (of_cycle cfg c e) refl)
      where
        each : (e : ℕ) → e < events cfg → (r : Bool) → of_cycle cfg c e ≡ r → EventGood cfg (turned c b s) e (view s e)
        each e h true q =
            record {
              kept = (o.events_good e h).kept;
              number = subst (λ (d : ℤ). d_ok cfg (turned c b s) e d ≡ true) (sym (zero e h q))
                  (zero_good (turned c b s) e h);
            }
        each e h false q = other_cycle c b s e q (view s e) (o.events_good e h)

    pub starts_keep : (c : ℕ) (s : State) → Keeps (of_cycle cfg c) (happens cfg start) s
    starts_keep c s =
        record { sound = λ k u h q r. starts_sound k u h; running = λ k u. (acts_happens cfg start).running k u }

    start_sound : (c : ℕ) (s : State) → Sound cfg s → first_that_applies (start_rules cfg c s) ≡ 0
        → Sound cfg (with_cycle c true (for_those cfg (of_cycle cfg c) (happens cfg start) s))
    unfolding start_rules
    start_sound c s o z =
        turned_sound c true s' g.sound
        (λ e h q. stopped_zero cfg s'.board e (D s' e) (off e q) (g.sound.events_good e h).number)
      where
        s' : State
        s' = for_those cfg (of_cycle cfg c) (happens cfg start) s

        g : Going s s'
        g = those_going (starts_keep c s) o

        off : (e : ℕ) → of_cycle cfg c e ≡ true → cycle_runs cfg s'.board e ≡ false
        off e q =
            runs_as s.board s'.board e g.running ∙ ap (runs s.board) (eqb-true (cycle_of cfg e) c q)
            ∙ none_applies _ z refl 3

    pub stops_keep : (c : ℕ) (s : State) → Keeps (of_cycle cfg c) (stops cfg) s
    stops_keep c s = record { sound = λ k u h q r. stops_sound k u h; running = λ k u. (acts_stops cfg).running k u }

    stop_sound : (c : ℕ) (s : State) → Sound cfg s → Sound cfg (with_cycle c false (for_those cfg (of_cycle cfg c)
        (stops cfg) s))
    stop_sound c s o =
        turned_sound c false _ (those_going (stops_keep c s) o).sound
        (λ e h q. ap (λ (v : View). v.number) (those_own (acts_stops cfg) (of_cycle cfg c) s o.memory.sized e h)
        ∙ rw q)

    -- ---- clear

    pub clears_keep : (code : ℕ) (s : State) → Keeps (covers cfg code) (clears cfg) s
    clears_keep code s =
        record { sound = λ k u h q r. clears_sound k u h; running = λ k u. (acts_clears cfg).running k u }

    cleared_sound : (code : ℕ) (s : State) → Sound cfg s → Sound cfg (cleared cfg code s)
    unfolding cleared
    cleared_sound code s o =
        let o' = (those_going (clears_keep code s) o).sound in on_board _ _ o'.memory
        (λ e h. same_running _ _ refl e _ (o'.events_good e h))

    -- ---- fresh

    fresh_sound : Sound cfg (fresh_state cfg)
    unfolding fresh_state memory_of entries_bytes no_twice
    fresh_sound = record {
      memory =
          subst (λ (m : List ℕ). MemoryGood cfg (with_memory m (fresh_state cfg))) (sym empty)
          (made_good cfg (fresh_state cfg) [] (fresh_sized cfg) (record { few = omega arith; each = tt; once = refl }));
      events_good = λ e h. record {
        kept = subst (λ (r : Stored). record_ok cfg e (opened r) ≡ true) (sym (fresh_records_lem cfg e h))
            (subst (λ (r : EventRecord). record_ok cfg e r ≡ true) (sym (opened_stored fresh_record))
            (fresh_well_formed (limits_of cfg e) (t.row e h).limits));
        number =
            subst (λ (d : ℤ). d_ok cfg (fresh_state cfg).board e d ≡ true)
            (sym (get_or-replicate (events cfg) e (pos 0) (pos 0) h)) (zero_good (fresh_state cfg).board e h);
      };
    }
      where
        empty : replicate (memory_length (places cfg) (entry_frames cfg)) 0 ≡ memory_of (places cfg) (entry_frames cfg) []
        empty =
            let whole : memory_length (places cfg) (entry_frames cfg) ≡ suc (places cfg * entry_width (entry_frames cfg)) =
            omega arith in
            let none : places cfg - 0 ≡ places cfg = omega arith in
            ap (λ (k : ℕ). replicate k 0) whole
            ∙ ap (λ (k : ℕ). 0 ∷ replicate k 0)
            (mul_comm (places cfg) (entry_width (entry_frames cfg))
            ∙ ap (λ (k : ℕ). entry_width (entry_frames cfg) * k) (sym none))

  -- ---- an accepted call

  -- the configuration that an accepted call judged
  judged_config : (applies : Bool) (rules : List Rule)
      → first_that_applies ((2 if not (config_ok cfg)) ∷ (3 if applies) ∷ rules) ≡ 0
      → numbered rules ≡ true → ConfigTells cfg
  judged_config applies rules z n =
      config_tells cfg (not-false _ (none_applies ((2 if not (config_ok cfg)) ∷ (3 if applies) ∷ rules) z n 0))

  does_sound : (c : Call) (b : Beside) (s t : State) → Does cfg b s c t → Sound cfg s → Sound cfg t
  unfolding report_rules tick_rules start_rules stop_rules clear_rules
  does_sound _ b s _ (a_report k code frame present z) o =
      report_sound (judged_config _ _ z refl) k code frame present b s o z
  does_sound _ b s _ (a_tick ms frame present z) o = tick_sound (judged_config _ _ z refl) ms frame present b s o z
  does_sound _ b s _ (a_start c z) o = start_sound (judged_config _ _ z refl) c s o z
  does_sound _ b s _ (a_stop c z) o = stop_sound (judged_config _ _ z refl) c s o
  does_sound _ b s _ (a_clear code z) o = cleared_sound (judged_config _ _ z refl) code s o
  does_sound _ b s _ (a_request bytes a z) o = cleared_sound (judged_config _ _ z refl) (three_at 1 bytes) s o
  does_sound _ b s _ (a_reading c r) o = o

  fresh_begun : (b : Beside) (s : State) → (fresh cfg b s).answer ≡ 0 → Sound cfg (fresh cfg b s).state
  unfolding fresh fresh_rules
  fresh_begun b s z =
      let a = accepted _ b s _ z in
      subst (λ (o : Outcome). Sound cfg o.state) (sym a.1) (fresh_sound (judged_config _ _ a.0 refl))

  restore_begun : (image : List ℕ) (b : Beside) (s : State) → (restore cfg image b s).answer ≡ 0
      → Sound cfg (restore cfg image b s).state
  restore_begun image b s z =
      sound cfg (restore cfg image b s).state
      (subst (λ (r : State). well_formed cfg r ≡ true) (sym (restored_state cfg image b s z))
      (accepted_state cfg image (restored_accepts cfg image b s z)).formed)

  -- ---- every call

  -- a fresh or a restore that was accepted begins anew; any other call goes on
  call_sound : (c : Call) (b : Beside) (s : State) → Sound cfg s → (t : Bool) → carries_on cfg c b s ≡ t
      → Sound cfg (outcome cfg c b s).state
  call_sound c b s o true g = go (call_does cfg c b s g)
    where
      go : Either (Does cfg b s c) s (outcome cfg c b s) → Sound cfg (outcome cfg c b s).state
      go (inl (n, p)) = subst (Sound cfg) (sym p) o
      go (inr (z, d)) = does_sound c b s _ d o
  call_sound c b s o false g = begun c (not-false (begins_anew c && eqb (outcome cfg c b s).answer 0) g)
    where
      begun : (c : Call) → begins_anew c && eqb (outcome cfg c b s).answer 0 ≡ true → Sound cfg
          (outcome cfg c b s).state
      begun Fresh e = fresh_begun b s (eqb-true _ 0 e)
      begun (Report k code frame present) e = clash true refl (sym e)
      begun (Tick ms frame present) e = clash true refl (sym e)
      begun (Start c) e = clash true refl (sym e)
      begun (Stop c) e = clash true refl (sym e)
      begun (Clear code) e = clash true refl (sym e)
      begun (Read q) e = clash true refl (sym e)
      begun (Restore image) e = restore_begun image b s (eqb-true _ 0 e)
      begun (Request bytes) e = clash true refl (sym e)

  pub stays_well_formed : (c : Call) (b : Beside) (s : State) → well_formed cfg s ≡ true
      → well_formed cfg (outcome cfg c b s).state ≡ true
  stays_well_formed c b s w =
      sound_formed cfg (outcome cfg c b s).state (call_sound c b s (sound cfg s w) (carries_on cfg c b s) refl)

  -- from any blocks, well formed or not
  pub fresh_makes_well_formed : (b : Beside) (s : State) → (fresh cfg b s).answer ≡ 0
      → well_formed cfg (fresh cfg b s).state ≡ true
  fresh_makes_well_formed b s z = sound_formed cfg (fresh cfg b s).state (fresh_begun b s z)

  pub restore_makes_well_formed : (image : List ℕ) (b : Beside) (s : State) → (restore cfg image b s).answer ≡ 0
      → well_formed cfg (restore cfg image b s).state ≡ true
  restore_makes_well_formed image b s z = sound_formed cfg (restore cfg image b s).state (restore_begun image b s z)
