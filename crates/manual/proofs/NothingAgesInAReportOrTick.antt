-- In a report and in a tick no entry ages and none is cleared; and the failures not stored of a tick are as many as the
-- events whose part of it was not stored, by rule 4.
use mathlib.Core.Path.{◌≡◌, refl, ap, ◌∙◌}
use mathlib.Core.Bool.{Bool, true, false, ◌&&◌, cond}
use mathlib.Core.List.{List, []}
use Prim.Native.Nat.{ℕ, zero, suc, ◌+◌}
use native.Mathlib.Omega.{arith}
use lib.Dec.{eqb}
use Rattle.manual.specs.declared.StoreAnswer.{StoreAnswer}
use Rattle.manual.specs.declared.StoreAnswer.TheVariants.{Untold, Renewed, Added, Displaced, NotStored}
use Rattle.manual.specs.Words.{for_below, count_below, count_those}
use Rattle.manual.specs.Configuration.{Configuration, events}
use Rattle.manual.specs.State.{State}
use Rattle.manual.specs.Memory.{is_lost}
use Rattle.manual.specs.Calls.{report_did, report_log, tick_moves, ticks, ticks_did, tick_log}
use Rattle.manual.specs.Counts.{Happening, place_of, of_store, log_below, count_of}
use Rattle.manual.proofs.WordsLaws.{count_append}

none_ages : (e : ℕ) (did : StoreAnswer) → count_of 2 (of_store e did) ≡ 0
unfolding count_those
none_ages e Untold = refl
none_ages e Renewed = refl
none_ages e Added = refl
none_ages e (Displaced v) = refl
none_ages e NotStored = refl

none_cleared : (e : ℕ) (did : StoreAnswer) → count_of 3 (of_store e did) ≡ 0
unfolding count_those
none_cleared e Untold = refl
none_cleared e Renewed = refl
none_cleared e Added = refl
none_cleared e (Displaced v) = refl
none_cleared e NotStored = refl

lost_once : (e : ℕ) (did : StoreAnswer) → count_of 4 (of_store e did) ≡ cond (is_lost did) 1 0
unfolding count_those
lost_once e Untold = refl
lost_once e Renewed = refl
lost_once e Added = refl
lost_once e (Displaced v) = refl
lost_once e NotStored = refl

module _ (cfg : Configuration) where
  module _ (e code : ℕ) (frame : List ℕ) (s : State) where
    pub report_ages_none : count_of 2 (report_log cfg e code frame s) ≡ 0
    unfolding report_log
    report_ages_none = none_ages e (report_did cfg e code frame s)

    pub report_clears_none : count_of 3 (report_log cfg e code frame s) ≡ 0
    unfolding report_log
    report_clears_none = none_cleared e (report_did cfg e code frame s)

    pub report_losses : count_of 4 (report_log cfg e code frame s) ≡ cond (is_lost (report_did cfg e code frame s)) 1 0
    unfolding report_log
    report_losses = lost_once e (report_did cfg e code frame s)

  module _ (ms : ℕ) (frame : List ℕ) (present : ℕ) (s : State) where
    abbrev moves : ℕ → Bool
    moves = tick_moves cfg present s.board

    -- the state that the parts of the events below n left
    abbrev pub up_to : ℕ → State
    up_to n = for_below n (λ e u. cond (moves e) (ticks cfg ms frame e u) u) s

    abbrev shown : ℕ → State → List Happening
    shown e u = of_store e (ticks_did cfg ms frame e u)

    abbrev log_to : ℕ → List Happening
    log_to n = log_below n (λ e u. cond (moves e) (ticks cfg ms frame e u) u) (λ e u. cond (moves e) (shown e u) []) s

    none_below : (place : ℕ) → ((e : ℕ) (did : StoreAnswer) → count_of place (of_store e did) ≡ 0) → (n : ℕ)
        → count_of place (log_to n) ≡ 0
    unfolding log_below
    none_below place none zero = unfold count_those in refl
    none_below place none (suc n) =
        omega (
          arith,
          count_append (λ h. eqb (place_of h) place) (cond (moves n) (shown n (up_to n)) []) (log_to n),
          turn (moves n),
          none_below place none n,
        )
      where
        turn : (b : Bool) → count_of place (cond b (shown n (up_to n)) []) ≡ 0
        turn true = none n (ticks_did cfg ms frame n (up_to n))
        turn false = unfold count_those in refl

    pub tick_ages_none : count_of 2 (tick_log cfg ms frame present s) ≡ 0
    unfolding tick_log
    tick_ages_none = none_below 2 none_ages (events cfg)

    pub tick_clears_none : count_of 3 (tick_log cfg ms frame present s) ≡ 0
    unfolding tick_log
    tick_clears_none = none_below 3 none_cleared (events cfg)

    -- event e is ticked, and its failure is not stored
    abbrev pub loses_at : ℕ → Bool
    loses_at e = tick_moves cfg present s.board e && is_lost (ticks_did cfg ms frame e (up_to e))

    one_more : (b : Bool) (k : ℕ) → cond b 1 0 + k ≡ cond b (suc k) k
    one_more true k = omega arith
    one_more false k = omega arith

    losses_below : (n : ℕ) → count_of 4 (log_to n) ≡ count_below n loses_at
    unfolding log_below count_below
    losses_below zero = unfold count_those in refl
    losses_below (suc n) =
        count_append (λ h. eqb (place_of h) 4) (cond (moves n) (shown n (up_to n)) []) (log_to n)
        ∙ ap (λ (k : ℕ). k + count_of 4 (log_to n)) (turn (moves n))
        ∙ one_more (loses_at n) (count_of 4 (log_to n))
        ∙ ap (λ (k : ℕ). cond (loses_at n) (suc k) k) (losses_below n)
      where
        turn : (b : Bool)
            → count_of 4 (cond b (shown n (up_to n)) []) ≡ cond (b && is_lost (ticks_did cfg ms frame n (up_to n))) 1 0
        turn true = lost_once n (ticks_did cfg ms frame n (up_to n))
        turn false = unfold count_those in refl

    pub tick_losses : count_of 4 (tick_log cfg ms frame present s) ≡ count_below (events cfg) loses_at
    unfolding tick_log
    tick_losses = losses_below (events cfg)
