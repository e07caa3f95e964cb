-- Clean stops, bit 2, and in a legal history what K counts: the runs from start to stop that hold failed results.
use mathlib.Core.Path.{◌≡◌, refl, sym, ap₂, ◌∙◌}
use mathlib.Core.Bool.{Bool, true, false, not, ◌&&◌, ◌||◌, cond}
use mathlib.Core.List.{List, [], ◌∷◌}
use Prim.Native.Nat.{ℕ, suc, min}
use native.Mathlib.Omega.{arith}
use lib.Dec.{T}
use Rattle.history.specs.Words.{any_of, since, some_with}
use Rattle.history.specs.StatusByte.{test_failed_this_operation_cycle, pending_dtc, Limits}
use Rattle.history.specs.StatusByte.{clean_cycle, counts_for_ageing, counts_for_healing}
use Rattle.history.specs.History.{Token, passed, failed, start, stop, clear, History, record_after, Moment}
use Rattle.history.specs.History.{moments, is_passed, is_failed, is_result, since_l, since_w, failure_free, clean}
use Rattle.history.specs.History.{since_clean_stop, edge, failed_runs, counted_for_ageing, counted_for_healing, reading}
use Rattle.history.specs.Legal.{running, legal}
use Rattle.history.proofs.Truth.{both_left, both_right, yes_so}
use Rattle.history.proofs.WordsLaws.{and_false, some_with_cong, some_with_none, parts_other, parts_more}
use Rattle.history.proofs.Results.{bit1, bit6}

-- the moment of a token, after this history
abbrev pub moment : Token → History → Moment
moment t l = record { what = t; before = l }

results : (w : List Moment) → any_of is_result w ≡ any_of is_passed w || any_of is_failed w
results [] = refl
results (m ∷ w) = rw (results w) (table (is_passed m) (is_failed m) (any_of is_passed w) (any_of is_failed w))
  where
    table : (a b c d : Bool) → (a || b) || (c || d) ≡ (a || c) || (b || d)
    table true b c d = refl
    table false true true d = refl
    table false true false d = refl
    table false false c d = refl

module _ (n : Limits) (l : History) where
  -- the rules take a stop for clean, for one that counts for healing, for one that counts for ageing, exactly where the
  -- reading does
  pub clean_cycle_is : clean_cycle (record_after n l).status ≡ clean (moment stop l)
  unfolding clean failure_free reading
  clean_cycle_is =
      ap₂ (λ failed untested. not failed && not untested) (bit1 n l) (bit6 n l)
      ∙ rw (results (since_w l)) (table (any_of is_failed (since_w l)) (any_of is_passed (since_w l)))
    where
      table : (f p : Bool) → not f && not (not (p || f)) ≡ (true && not f) && p
      table true p = refl
      table false true = refl
      table false false = refl

  pub healing_is : counts_for_healing (record_after n l).status ≡ counted_for_healing (moment stop l)
  healing_is = clean_cycle_is

  pub ageing_is : counts_for_ageing (record_after n l).status ≡ counted_for_ageing (moment stop l)
  ageing_is = clean_cycle_is

-- a run that goes on holds a failed result after the last clean stop exactly where bit 1 reads set
this_run : (n : Limits) (l : History) → running l ≡ true
    → any_of is_failed (since edge (since_clean_stop l)) ≡ reading n l test_failed_this_operation_cycle
unfolding since_clean_stop reading since_w moments clean failure_free
this_run n [] e = cc
this_run n (passed ∷ l) e = this_run n l e
this_run n (failed ∷ l) e = refl
this_run n (start ∷ l) e = refl
this_run n (stop ∷ l) e = cc
this_run n (clear ∷ l) e = refl

-- ---- the runs that hold failed results after the later of L and the last clean stop, one thing after the other

unfoldable pub failed_runs_now : History → ℕ
failed_runs_now l = failed_runs (since_clean_stop l)

runs_failed : (n : Limits) (l : History) → running l ≡ true
    → failed_runs_now (failed ∷ l)
    ≡ cond (reading n l test_failed_this_operation_cycle) (failed_runs_now l) (suc (failed_runs_now l))
unfolding failed_runs_now since_clean_stop moments clean failure_free
runs_failed n l e = rw (← (this_run n l e)) (parts_more edge is_failed (moment failed l) (since_clean_stop l) refl refl)

runs_passed : (l : History) → failed_runs_now (passed ∷ l) ≡ failed_runs_now l
unfolding failed_runs_now since_clean_stop moments clean failure_free
runs_passed l = parts_other edge is_failed (moment passed l) (since_clean_stop l) refl refl

runs_start : (l : History) → failed_runs_now (start ∷ l) ≡ failed_runs_now l
unfolding failed_runs_now since_clean_stop moments clean failure_free
runs_start l = refl

runs_stop : (l : History) → failed_runs_now (stop ∷ l) ≡ cond (clean (moment stop l)) 0 (failed_runs_now l)
unfolding failed_runs_now since_clean_stop moments
runs_stop l = go (clean (moment stop l))
  where
    go : (b : Bool)
        → failed_runs (cond b [] (moment stop l ∷ since_clean_stop l)) ≡ cond b 0 (failed_runs (since_clean_stop l))
    go true = refl
    go false = refl

runs_none : failed_runs_now [] ≡ 0
unfolding failed_runs_now since_clean_stop moments
runs_none = refl

runs_clear : (l : History) → failed_runs_now (clear ∷ l) ≡ 0
unfolding failed_runs_now since_clean_stop moments
runs_clear l = refl

-- what lay before the last thing of a legal history is legal
pub legal_before : (t : Token) (l : History) → T (legal (t ∷ l)) → T (legal l)
legal_before passed l = both_right (running l) (legal l)
legal_before failed l = both_right (running l) (legal l)
legal_before start l = both_right (not (running l)) (legal l)
legal_before stop l = both_right (running l) (legal l)
legal_before clear l = λ t. t

-- a failed result of a legal history lies in a run
pub failed_in_run : (l : History) → T (legal (failed ∷ l)) → running l ≡ true
failed_in_run l t = yes_so (running l) (both_left (running l) (legal l) t)

-- K is their number, at most 255
pub K_is : (n : Limits) (l : History) → T (legal l) → (record_after n l).K ≡ min 255 (failed_runs_now l)
unfolding record_after
K_is n [] t = rw runs_none
K_is n (passed ∷ l) t = rw (runs_passed l) (K_is n l (legal_before passed l t))
K_is n (failed ∷ l) t =
    rw (runs_failed n l (failed_in_run l t), bit1 n l, K_is n l (legal_before failed l t))
    (table (reading n l test_failed_this_operation_cycle) (failed_runs_now l))
  where
    table : (b : Bool) (r : ℕ) → cond b (min 255 r) (min 255 (suc (min 255 r))) ≡ min 255 (cond b r (suc r))
    table true r = refl
    table false r = omega arith
K_is n (start ∷ l) t = rw (runs_start l) (K_is n l (legal_before start l t))
K_is n (stop ∷ l) t =
    rw (runs_stop l, clean_cycle_is n l, K_is n l (legal_before stop l t))
    (table (clean (moment stop l)) (failed_runs_now l))
  where
    table : (b : Bool) (r : ℕ) → cond b 0 (min 255 r) ≡ min 255 (cond b 0 r)
    table true r = refl
    table false r = refl
K_is n (clear ∷ l) t = rw (runs_clear l)

-- a clean stop ends the pending of every failed result before it
pending : (b : Bool) (ms : List Moment)
    → some_with (λ after m. is_failed m && not (b || any_of clean after)) ms
    ≡ cond b false (some_with (λ after m. is_failed m && not (any_of clean after)) ms)
pending true ms =
    some_with_cong (λ after m. is_failed m && false) (λ after m. false) ms (λ a x r q. and_false (is_failed x))
    ∙ some_with_none ms
pending false ms = refl

pub bit2 : (n : Limits) (l : History) → (record_after n l).status pending_dtc ≡ reading n l pending_dtc
unfolding record_after reading since_l moments clean failure_free
bit2 n [] = refl
bit2 n (passed ∷ l) = bit2 n l
bit2 n (failed ∷ l) = refl
bit2 n (start ∷ l) = bit2 n l
bit2 n (stop ∷ l) = rw (clean_cycle_is n l, bit2 n l) (sym (pending (clean (moment stop l)) (since_l l)))
bit2 n (clear ∷ l) = refl
