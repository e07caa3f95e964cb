-- `failed_is_pending` meets its contract.
use mathlib.Core.Path.{◌∙◌}
use mathlib.Core.Bool.{not, ◌&&◌}
use Rattle.history.specs.Words.{implies}
use Rattle.history.specs.StatusByte.{test_failed_this_operation_cycle, pending_dtc, test_not_completed_this_operation_cycle}
use Rattle.status.proofs.MasksLaws.{contains_is}
use Rattle.status.proofs.failed_is_pending.Goals as goal

pub returns : goal.returns
returns c =
    let s = c.args.s.0 in
    let bit1-is = contains_is s test_failed_this_operation_cycle c.contains.ensures in
    let bit2-is = contains_is s pending_dtc c.contains-2.ensures in
    let bit6-is = contains_is s test_not_completed_this_operation_cycle c.contains-3.ensures in
    c.implies.ensures ∙ (λ i. implies (bit1-is i) (bit2-is i && not (bit6-is i)))
