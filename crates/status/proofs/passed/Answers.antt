-- `passed` meets its contract.
use mathlib.Core.Path.{refl}
use mathlib.Core.List.{[], ◌∷◌}
use borrow.Author.Rules.{rules}
use Rattle.history.specs.StatusByte.{test_failed, test_not_completed_since_last_clear, test_not_completed_this_operation_cycle}
use Rattle.status.proofs.MasksLaws.{clear_is}
use Rattle.status.proofs.RecordsLaws.{bytes_are}
use Rattle.status.proofs.passed.Goals as goal

pub returns : goal.returns
returns c =
    λ n. bytes_are (search rules)
    (clear_is (test_failed ∷ test_not_completed_since_last_clear ∷ test_not_completed_this_operation_cycle ∷ [])
    c.args.r.status.0 c.clear.ensures refl)
    refl refl refl
