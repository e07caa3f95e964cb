-- In every state that calls lead to, each event's history is legal: results and stops lie in a run of its cycle, starts
-- between runs; and the run goes on exactly where the board, which always has four cycles, says that the cycle runs.
use mathlib.Core.Path.{◌≡◌, refl, sym, ap, subst, ◌∙◌}
use mathlib.Core.Bool.{Bool, true, false, not, ◌&&◌}
use mathlib.Core.List.{List, [], ◌∷◌, ◌++◌}
use Prim.Native.Nat.{ℕ, zero, suc, ◌<◌}
use native.Mathlib.Omega.{arith}
use lib.Dec.{T, eqb}
use lib.ListN.{length, get_or, set, length-set}
use lib.Seq.{get_or-set_same, get_or-set_other}
use borrow.Author.Tests.{eqb-true, eqb-false, ltb-false, not-false}
use Rattle.history.specs.History.{Token, start, stop, clear, History}
use Rattle.history.specs.Legal.{running, legal}
use Rattle.history.proofs.WordsLaws.{and_left, and_right}
use Rattle.manual.specs.declared.Verdict.{Verdict}
use Rattle.manual.specs.declared.Verdict.TheVariants.{None, Passed, Failed}
use Rattle.manual.specs.Configuration.{Configuration, events, cycle_of, is_time}
use Rattle.manual.specs.State.{State, runs, all_stopped, D}
use Rattle.manual.specs.Answers.{Beside, Outcome, first_that_applies}
use Rattle.manual.specs.Debouncing.{reported, ticked}
use Rattle.manual.specs.Conditions.{enabled}
use Rattle.manual.specs.Calls.{fresh_state, fresh, cycle_runs, report_rules, time_runs, tick_moves}
use Rattle.manual.specs.Calls.{of_cycle, start_rules, stop_rules, covers, cleared}
use Rattle.manual.specs.Sequences.{result, only_if, Report, Tick, Reached, begun, called, restored}
use Rattle.manual.proofs.AnswersLaws.{none_applies, accepted}
use Rattle.manual.proofs.OneEventLaws.{those_running, acts_happens, acts_stops, acts_clears}
use Rattle.manual.proofs.OneEventLaws.{applied_running, ticks_running}
use Rattle.manual.proofs.SequencesLaws.{Histories, given, KeptWhenAccepted, call_keeps}
use Rattle.manual.proofs.RestoreAfterSave.{restored_is_saved}

-- the history is legal, and r says whether its run goes on
pub record Lawful (l : History) (r : Bool) : Type 0 where
  pub is_legal : T (legal l)
  pub goes_on : running l ≡ r

and_t : (a b : Bool) → a ≡ true → T b → T (a && b)
and_t a b e t = rw e t

lawful_result : (v : Verdict) (l : History) → Lawful l true → Lawful (result v ++ l) true
lawful_result None l w = w
lawful_result Passed l w =
    record { is_legal = and_t (running l) (legal l) w.goes_on w.is_legal; goes_on = w.goes_on }
lawful_result Failed l w =
    record { is_legal = and_t (running l) (legal l) w.goes_on w.is_legal; goes_on = w.goes_on }

lawful_start : (l : History) → Lawful l false → Lawful (start ∷ l) true
lawful_start l w =
    record { is_legal = and_t (not (running l)) (legal l) (ap not w.goes_on) w.is_legal; goes_on = refl }

lawful_stop : (l : History) → Lawful l true → Lawful (stop ∷ l) false
lawful_stop l w = record { is_legal = and_t (running l) (legal l) w.goes_on w.is_legal; goes_on = refl }

lawful_clear : (l : History) (r : Bool) → Lawful l r → Lawful (clear ∷ l) r
lawful_clear l r w = record { is_legal = w.is_legal; goes_on = w.goes_on }

-- tokens that only those events get that pass a test
only_those : (b : Bool) (g : List Token) (l : History) (r : Bool) → (b ≡ true → Lawful (g ++ l) r)
    → (b ≡ false → Lawful l r) → Lawful (only_if b g ++ l) r
only_those true g l r f n = f refl
only_those false g l r f n = n refl

module _ (cfg : Configuration) where
  pub record Orderly (s : State) (H : Histories) : Type 0 where
    pub four : length s.board.running ≡ 4
    pub each : (e : ℕ) → e < events cfg → Lawful (H e) (cycle_runs cfg s.board e)

  module _ (s : State) (H : Histories) (o : Orderly s H) where
    -- a state on whose board the same cycles run
    same_cycles : (t : State) → t.board.running ≡ s.board.running → (K : Histories)
        → ((e : ℕ) → e < events cfg → Lawful (K e) (cycle_runs cfg s.board e)) → Orderly t K
    same_cycles t r K f = record {
      four = ap length r ∙ o.four;
      each = λ e h. subst (Lawful (K e)) (ap (λ (l : List Bool). get_or l (cycle_of cfg e) false) (sym r)) (f e h);
    }

    runs_at : (e : ℕ) → e < events cfg → (r : Bool) → cycle_runs cfg s.board e ≡ r → Lawful (H e) r
    runs_at e h r q = subst (Lawful (H e)) q (o.each e h)

    report_orderly : (k code : ℕ) (frame : List ℕ) (present : ℕ) (b : Beside)
        → first_that_applies (report_rules cfg k code frame present b s) ≡ 0 → (e : ℕ) → e < events cfg
        → Lawful (given cfg (Report k code frame present) s H e) (cycle_runs cfg s.board e)
    unfolding report_rules
    report_orderly k code frame present b z e h =
        only_those (eqb e k) _ (H e) _
        (λ q. let on = running_now q in subst (Lawful _) (sym on)
        (lawful_result (reported cfg e code (D s e)).verdict (H e) (runs_at e h true on)))
        (λ q. o.each e h)
      where
        running_now : eqb e k ≡ true → cycle_runs cfg s.board e ≡ true
        running_now q =
            subst (λ (j : ℕ). cycle_runs cfg s.board j ≡ true) (sym (eqb-true e k q))
            (not-false (cycle_runs cfg s.board k) (none_applies _ z refl 6))

    tick_orderly : (ms : ℕ) (frame : List ℕ) (present e : ℕ) → e < events cfg
        → Lawful (given cfg (Tick ms frame present) s H e) (cycle_runs cfg s.board e)
    tick_orderly ms frame present e h =
        only_those (tick_moves cfg present s.board e) _ (H e) _
        (λ q. let on = and_right (is_time cfg e) (cycle_runs cfg s.board e)
        (and_left (time_runs cfg s.board e) (enabled cfg present e) q) in subst (Lawful _) (sym on)
        (lawful_result (ticked cfg e ms (D s e)).verdict (H e) (runs_at e h true on)))
        (λ q. o.each e h)

    -- cycle c turned to b, where it was not b before: its events get the token, the others none
    turned : (c : ℕ) (b : Bool) (t : Token) (running-then : List Bool) → running-then ≡ s.board.running → c < 4
        → ((e : ℕ) → e < events cfg → of_cycle cfg c e ≡ true → Lawful (t ∷ H e) b)
        → (e : ℕ) → e < events cfg
        → Lawful (only_if (of_cycle cfg c e) (t ∷ []) ++ H e) (get_or (set running-then c b) (cycle_of cfg e) false)
    turned c b t l r below f e h =
        only_those (of_cycle cfg c e) (t ∷ []) (H e) _
        (λ q. subst (Lawful (t ∷ H e)) (sym (own q)) (f e h q))
        (λ q. subst (Lawful (H e)) (sym (other q)) (o.each e h))
      where
        own : of_cycle cfg c e ≡ true → get_or (set l c b) (cycle_of cfg e) false ≡ b
        own q =
            ap (λ (j : ℕ). get_or (set l c b) j false) (eqb-true (cycle_of cfg e) c q)
            ∙ get_or-set_same l c b false (let n = ap length r in let m = o.four in omega arith)

        other : of_cycle cfg c e ≡ false → get_or (set l c b) (cycle_of cfg e) false ≡ cycle_runs cfg s.board e
        other q =
            get_or-set_other l c (cycle_of cfg e) b false (eqb-false (cycle_of cfg e) c q)
            ∙ ap (λ (x : List Bool). get_or x (cycle_of cfg e) false) r

    -- events of a cycle were running as it was
    of_cycle_lem : (c : ℕ) (r : Bool) → runs s.board c ≡ r → (e : ℕ) → e < events cfg → of_cycle cfg c e ≡ true
        → Lawful (H e) r
    of_cycle_lem c r q e h k =
        runs_at e h r (subst (λ (j : ℕ). runs s.board j ≡ r) (sym (eqb-true (cycle_of cfg e) c k)) q)

    orderly_accepted : (b : Beside) → KeptWhenAccepted cfg Orderly b s H
    unfolding start_rules stop_rules cleared
    orderly_accepted b = record {
      report =
          λ k code frame present z. same_cycles _ (applied_running cfg frame k _ s) _
          (report_orderly k code frame present b z);
      tick =
          λ ms frame present z. same_cycles _ (ticks_running cfg ms frame (tick_moves cfg present s.board) s) _
          (tick_orderly ms frame present);
      start = λ c z. record {
        four = simp length-set (ap length (those_running (acts_happens cfg start) (of_cycle cfg c) s) ∙ o.four);
        each =
            turned c true start _ (those_running (acts_happens cfg start) (of_cycle cfg c) s)
            (let four = ltb-false 3 c (none_applies _ z refl 2) in omega arith)
            (λ e h q. lawful_start (H e) (of_cycle_lem c false (none_applies _ z refl 3) e h q));
      };
      stop = λ c z. record {
        four = simp length-set (ap length (those_running (acts_stops cfg) (of_cycle cfg c) s) ∙ o.four);
        each =
            turned c false stop _ (those_running (acts_stops cfg) (of_cycle cfg c) s)
            (let four = ltb-false 3 c (none_applies _ z refl 2) in omega arith)
            (λ e h q. lawful_stop (H e)
            (of_cycle_lem c true (not-false (runs s.board c) (none_applies _ z refl 3)) e h q));
      };
      clear =
          λ code z. same_cycles _ (those_running (acts_clears cfg) (covers cfg code) s) _
          (λ e h. only_those (covers cfg code e) (clear ∷ []) (H e) _ (λ q. lawful_clear (H e) _ (o.each e h))
          (λ q. o.each e h));
    }

  none_runs : (c : ℕ) → false ≡ get_or all_stopped c false
  none_runs zero = refl
  none_runs (suc zero) = refl
  none_runs (suc (suc zero)) = refl
  none_runs (suc (suc (suc zero))) = refl
  none_runs (suc (suc (suc (suc c)))) = refl

  orderly_begun : (b : Beside) (s : State) → (fresh cfg b s).answer ≡ 0 → Orderly (fresh cfg b s).state (λ e. [])
  unfolding fresh fresh_state
  orderly_begun b s z =
      subst (λ (o : Outcome). Orderly o.state (λ e. [])) (sym (accepted _ b s _ z).1)
      (record { four = refl; each = λ e h. record { is_legal = tt; goes_on = none_runs (cycle_of cfg e) } })

  orderly : {s : State} {H : Histories} → Reached cfg s H → Orderly s H
  orderly (begun b s z) = orderly_begun b s z
  orderly (called {s} {H} r c b g) = call_keeps cfg Orderly b s H (orderly r) (orderly_accepted s H (orderly r) b) c g
  orderly (restored {s} {H} r b z b' s' a) =
      subst (λ (o : Outcome). Orderly o.state H) (sym (restored_is_saved cfg s s' (orderly r).four b b' z a))
      (orderly r)

  -- "which of the four cycles run"
  pub four_cycles_lem : {s : State} {H : Histories} → Reached cfg s H → length s.board.running ≡ 4
  four_cycles_lem r = (orderly r).four

  module _ {s : State} {H : Histories} (reached : Reached cfg s H) (e : ℕ) (below : e < events cfg) where
    pub history_is_legal : T (legal (H e))
    history_is_legal = ((orderly reached).each e below).is_legal

    pub run_goes_on : running (H e) ≡ cycle_runs cfg s.board e
    run_goes_on = ((orderly reached).each e below).goes_on
