-- What bits 0 and 6 tell of the present run: bit 6 is clear exactly where a qualified result lies there after any
-- clear; and where one does, bit 0 is clear exactly where the last of them is passed, and set where it is failed.
use mathlib.Core.Path.{◌≡◌, refl, ap}
use mathlib.Core.Bool.{true, false, not}
use mathlib.Core.List.{[], ◌∷◌}
use Rattle.history.specs.Words.{last_of}
use Rattle.history.specs.StatusByte.{test_failed, test_not_completed_this_operation_cycle, Limits}
use Rattle.history.specs.History.{passed, failed, start, stop, clear, History, moments, is_passed, is_failed}
use Rattle.history.specs.History.{is_result, since_l, since_w, reading}
use Rattle.history.specs.Untested.{in_present_run, is_tested}
use Rattle.history.proofs.Truth.{so}
use Rattle.history.proofs.Runs.{moment}

-- what lies in the present run after any clear is what lies since W
since_w_lem : (l : History) → in_present_run l ≡ since_w l
unfolding in_present_run since_w moments
since_w_lem [] = refl
since_w_lem (passed ∷ l) = ap (λ ms. moment passed l ∷ ms) (since_w_lem l)
since_w_lem (failed ∷ l) = ap (λ ms. moment failed l ∷ ms) (since_w_lem l)
since_w_lem (start ∷ l) = refl
since_w_lem (stop ∷ l) = ap (λ ms. moment stop l ∷ ms) (since_w_lem l)
since_w_lem (clear ∷ l) = refl

module _ (n : Limits) where
  pub bit6_untested : (l : History) → reading n l test_not_completed_this_operation_cycle ≡ not (is_tested l)
  unfolding reading
  bit6_untested l = rw (since_w_lem l) refl

  -- where a result lies there, the last since L is the last there
  pub bit0_last : (l : History) → is_tested l ≡ true
      → reading n l test_failed ≡ last_of is_result is_failed (in_present_run l)
  unfolding reading since_l in_present_run moments
  bit0_last [] t = refl
  bit0_last (passed ∷ l) t = refl
  bit0_last (failed ∷ l) t = refl
  bit0_last (start ∷ l) t = absurd (so false t)
  bit0_last (stop ∷ l) t = bit0_last l t
  bit0_last (clear ∷ l) t = refl

-- a last result that is not failed is passed
pub last_passed : (l : History) → is_tested l ≡ true
    → last_of is_result is_passed (in_present_run l) ≡ not (last_of is_result is_failed (in_present_run l))
unfolding in_present_run moments
last_passed [] t = t
last_passed (passed ∷ l) t = refl
last_passed (failed ∷ l) t = refl
last_passed (start ∷ l) t = t
last_passed (stop ∷ l) t = last_passed l t
last_passed (clear ∷ l) t = t
