-- "4. Else not stored; overflow is set.": after an accepted report or tick overflow is set exactly where it was before,
-- or the call's log shows some failure not stored. How many a call shows, and of which event, is said in
-- NothingAgesInAReportOrTick.antt and StoresAreNamed.antt.
use mathlib.Core.Path.{◌≡◌, refl, sym, ap, ◌∙◌}
use mathlib.Core.Bool.{Bool, true, false, ◌||◌, cond}
use mathlib.Core.List.{List, [], ◌++◌}
use Prim.Native.Nat.{ℕ, zero, suc, ◌+◌}
use native.Mathlib.Omega.{arith}
use lib.Dec.{eqb, ltb}
use borrow.Author.Tests.{lt-ltb, le-ltb, ltb-true, ltb-false}
use Rattle.history.specs.StatusByte.{fresh_failure}
use Rattle.history.specs.History.{failed}
use Rattle.manual.specs.declared.Verdict.{Verdict}
use Rattle.manual.specs.declared.Verdict.TheVariants.{None, Passed, Failed}
use Rattle.manual.specs.declared.StoreAnswer.{StoreAnswer}
use Rattle.manual.specs.declared.StoreAnswer.TheVariants.{Untold, Renewed, Added, Displaced, NotStored}
use Rattle.manual.specs.Words.{for_below, count_those}
use Rattle.manual.specs.Configuration.{Configuration, events}
use Rattle.manual.specs.State.{State, record_of, D, with_d}
use Rattle.manual.specs.Memory.{is_lost}
use Rattle.manual.specs.Answers.{Beside, Outcome}
use Rattle.manual.specs.Debouncing.{Debounced, ticked}
use Rattle.manual.specs.OneEvent.{happens, keeps, stored_for, memory_told, fails, fails_did, qualifies, qualifies_did}
use Rattle.manual.specs.OneEvent.{for_those}
use Rattle.manual.specs.Calls.{applied, applied_did, debounced_by, report_log, report, tick_moves, ticks, ticks_did}
use Rattle.manual.specs.Calls.{tick_log, tick}
use Rattle.manual.specs.Counts.{Happening, place_of, of_store, log_below, count_of}
use Rattle.manual.proofs.WordsLaws.{count_append}
use Rattle.manual.proofs.AnswersLaws.{accepted}

-- one not stored, at least
abbrev pub some_not_stored : List Happening → Bool
some_not_stored log = ltb 0 (count_of 4 log)

or_none_lem : (a : Bool) → (a || false) ≡ a
or_none_lem true = refl
or_none_lem false = refl

lost_shows : (e : ℕ) (did : StoreAnswer) → some_not_stored (of_store e did) ≡ is_lost did
unfolding count_those
lost_shows e Untold = refl
lost_shows e Renewed = refl
lost_shows e Added = refl
lost_shows e (Displaced v) = refl
lost_shows e NotStored = refl

-- one log, and then another
some_then : (o : Bool) (a b : List Happening)
    → (o || some_not_stored a) || some_not_stored b ≡ (o || some_not_stored (b ++ a))
some_then true a b = refl
some_then false a b =
    go (some_not_stored a) refl (some_not_stored b) refl ∙ ap (ltb 0) (sym (count_append (λ h. eqb (place_of h) 4) b a))
  where
    go : (x : Bool) → some_not_stored a ≡ x → (y : Bool) → some_not_stored b ≡ y
        → x || y ≡ ltb 0 (count_of 4 b + count_of 4 a)
    go true p y q = sym (lt-ltb 0 (count_of 4 b + count_of 4 a) (omega (arith, ltb-true 0 (count_of 4 a) p)))
    go false p true q = sym (lt-ltb 0 (count_of 4 b + count_of 4 a) (omega (arith, ltb-true 0 (count_of 4 b) q)))
    go false p false q =
        let h = ltb-false 0 (count_of 4 a) p in
        let k = ltb-false 0 (count_of 4 b) q in
        sym (le-ltb 0 (count_of 4 b + count_of 4 a) (omega arith))

module _ (cfg : Configuration) where
  abbrev pub overflow : State → Bool
  overflow s = s.board.overflow

  -- one part of a report or a tick
  part_overflow : (frame : List ℕ) (k : ℕ) (d : Debounced) (u : State)
      → overflow (applied cfg frame k d u) ≡ (overflow u || some_not_stored (of_store k (applied_did cfg frame k d u)))
  unfolding applied applied_did fails fails_did memory_told keeps happens
  part_overflow frame k d u =
      go d.verdict
      ∙ ap (λ (b : Bool). overflow u || b) (sym (lost_shows k (applied_did cfg frame k d u)))
    where
      u' : State
      u' = with_d k d.number u

      afresh : (b : Bool)
          → overflow (cond b (memory_told cfg frame k (happens cfg failed k u')) (happens cfg failed k u'))
          ≡ (overflow u || is_lost (cond b (stored_for cfg frame k (happens cfg failed k u')).did Untold))
      afresh true = refl
      afresh false = sym (or_none_lem (overflow u))

      go : (v : Verdict)
          → overflow (qualifies cfg frame k v u') ≡ (overflow u || is_lost (qualifies_did cfg frame k v u'))
      go None = sym (or_none_lem (overflow u))
      go Passed = sym (or_none_lem (overflow u))
      go Failed = afresh (fresh_failure (record_of u k))

  pub report_overflow : (k code : ℕ) (frame : List ℕ) (present : ℕ) (b : Beside) (s : State)
      → (report cfg k code frame present b s).answer ≡ 0
      → overflow (report cfg k code frame present b s).state
      ≡ (overflow s || some_not_stored (report_log cfg k code frame s))
  unfolding report report_log
  report_overflow k code frame present b s z =
      ap (λ (o : Outcome). overflow o.state) (accepted _ b s _ z).1
      ∙ part_overflow frame k (debounced_by cfg k code s) s

  module _ (ms : ℕ) (frame : List ℕ) (present : ℕ) (s : State) where
    abbrev moves : ℕ → Bool
    moves = tick_moves cfg present s.board

    abbrev shown : ℕ → State → List Happening
    shown e u = of_store e (ticks_did cfg ms frame e u)

    abbrev up_to : ℕ → State
    up_to n = for_below n (λ e u. cond (moves e) (ticks cfg ms frame e u) u) s

    abbrev log_to : ℕ → List Happening
    log_to n = log_below n (λ e u. cond (moves e) (ticks cfg ms frame e u) u) (λ e u. cond (moves e) (shown e u) []) s

    turn_overflow : (n : ℕ) (b : Bool)
        → overflow (cond b (ticks cfg ms frame n (up_to n)) (up_to n))
        ≡ (overflow (up_to n) || some_not_stored (cond b (shown n (up_to n)) []))
    turn_overflow n true = part_overflow frame n (ticked cfg n ms (D (up_to n) n)) (up_to n)
    turn_overflow n false = unfold count_those in sym (or_none_lem (overflow (up_to n)))

    below_overflow : (n : ℕ) → overflow (up_to n) ≡ (overflow s || some_not_stored (log_to n))
    unfolding for_below log_below
    below_overflow zero = unfold count_those in sym (or_none_lem (overflow s))
    below_overflow (suc n) =
        turn_overflow n (moves n)
        ∙ ap (λ (o : Bool). o || some_not_stored (cond (moves n) (shown n (up_to n)) [])) (below_overflow n)
        ∙ some_then (overflow s) (log_to n) (cond (moves n) (shown n (up_to n)) [])

    pub tick_overflow : (b : Beside) → (tick cfg ms frame present b s).answer ≡ 0
        → overflow (tick cfg ms frame present b s).state
        ≡ (overflow s || some_not_stored (tick_log cfg ms frame present s))
    unfolding tick for_those tick_log
    tick_overflow b z =
        ap (λ (o : Outcome). overflow o.state) (accepted _ b s _ z).1 ∙ below_overflow (events cfg)
