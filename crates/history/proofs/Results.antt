-- The bits that no count decides: 0, 1, 4, 5 and 6 of the record are those of the reading.
use mathlib.Core.Path.{◌≡◌, refl}
use mathlib.Core.List.{[], ◌∷◌}
use Rattle.history.specs.StatusByte.{test_failed, test_failed_this_operation_cycle, test_not_completed_since_last_clear}
use Rattle.history.specs.StatusByte.{test_failed_since_last_clear, test_not_completed_this_operation_cycle, Limits}
use Rattle.history.specs.History.{passed, failed, start, stop, clear, History, record_after}
use Rattle.history.specs.History.{moments, since_l, since_w, reading}

module _ (n : Limits) where
  pub bit0 : (l : History) → (record_after n l).status test_failed ≡ reading n l test_failed
  unfolding record_after reading since_l moments
  bit0 [] = refl
  bit0 (passed ∷ l) = refl
  bit0 (failed ∷ l) = refl
  bit0 (start ∷ l) = bit0 l
  bit0 (stop ∷ l) = bit0 l
  bit0 (clear ∷ l) = refl

  pub bit1 : (l : History)
      → (record_after n l).status test_failed_this_operation_cycle ≡ reading n l test_failed_this_operation_cycle
  unfolding record_after reading since_w moments
  bit1 [] = refl
  bit1 (passed ∷ l) = bit1 l
  bit1 (failed ∷ l) = refl
  bit1 (start ∷ l) = refl
  bit1 (stop ∷ l) = bit1 l
  bit1 (clear ∷ l) = refl

  pub bit4 : (l : History)
      → (record_after n l).status test_not_completed_since_last_clear ≡ reading n l test_not_completed_since_last_clear
  unfolding record_after reading since_l moments
  bit4 [] = refl
  bit4 (passed ∷ l) = refl
  bit4 (failed ∷ l) = refl
  bit4 (start ∷ l) = bit4 l
  bit4 (stop ∷ l) = bit4 l
  bit4 (clear ∷ l) = refl

  pub bit5 : (l : History) → (record_after n l).status test_failed_since_last_clear ≡ reading n l test_failed_since_last_clear
  unfolding record_after reading since_l moments
  bit5 [] = refl
  bit5 (passed ∷ l) = bit5 l
  bit5 (failed ∷ l) = refl
  bit5 (start ∷ l) = bit5 l
  bit5 (stop ∷ l) = bit5 l
  bit5 (clear ∷ l) = refl

  pub bit6 : (l : History)
      → (record_after n l).status test_not_completed_this_operation_cycle ≡ reading n l test_not_completed_this_operation_cycle
  unfolding record_after reading since_w moments
  bit6 [] = refl
  bit6 (passed ∷ l) = refl
  bit6 (failed ∷ l) = refl
  bit6 (start ∷ l) = refl
  bit6 (stop ∷ l) = bit6 l
  bit6 (clear ∷ l) = refl
