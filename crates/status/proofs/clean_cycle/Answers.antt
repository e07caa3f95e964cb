-- `clean_cycle` meets its contract.
use mathlib.Core.Path.{ap, ◌∙◌}
use mathlib.Core.Bool.{not}
use mathlib.Core.List.{[], ◌∷◌}
use lib.Dec.{lit<}
use Rattle.history.specs.StatusByte.{test_failed_this_operation_cycle, test_not_completed_this_operation_cycle, status_of}
use Rattle.status.proofs.MasksLaws.{mask_of, shares_is, neither_set}
use Rattle.status.proofs.clean_cycle.Goals as goal

pub returns : goal.returns
returns c =
    let s = c.args.s.0 in
    ap not
    (shares_is s (mask_of (test_failed_this_operation_cycle ∷ test_not_completed_this_operation_cycle ∷ [])) (lit< tt)
    c.shares.ensures)
    ∙ neither_set (status_of s test_failed_this_operation_cycle) (status_of s test_not_completed_this_operation_cycle)
