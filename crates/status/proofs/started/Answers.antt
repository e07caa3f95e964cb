-- `started` meets its contract.
use mathlib.Core.Path.{refl}
use mathlib.Core.List.{[], ◌∷◌}
use borrow.Author.Rules.{rules}
use Rattle.history.specs.StatusByte.{test_failed_this_operation_cycle, test_not_completed_this_operation_cycle}
use Rattle.status.proofs.MasksLaws.{set_is, clear_is}
use Rattle.status.proofs.RecordsLaws.{bytes_are}
use Rattle.status.proofs.started.Goals as goal

pub returns : goal.returns
returns c =
    λ n. bytes_are (search rules)
    (set_is (test_not_completed_this_operation_cycle ∷ []) c.clear.result.0 c.set.ensures
    (clear_is (test_failed_this_operation_cycle ∷ []) c.args.r.status.0
    c.clear.ensures refl))
    refl refl refl
