-- `failed` meets its contract: its bits one call after the other, with K as the rule raises it.
use mathlib.Core.Path.{◌≡◌, refl, ap, ◌∙◌}
use mathlib.Core.Bool.{Bool, not, ◌&&◌, cond}
use mathlib.Core.List.{[], ◌∷◌}
use Prim.Native.Nat.{suc, min}
use lib.Dec.{leb}
use borrow.Author.Rules.{rules}
use Rattle.history.specs.StatusByte.{test_failed, test_failed_this_operation_cycle, pending_dtc, confirmed_dtc}
use Rattle.history.specs.StatusByte.{test_not_completed_since_last_clear, test_failed_since_last_clear}
use Rattle.history.specs.StatusByte.{test_not_completed_this_operation_cycle, warning_indicator_requested, status_of}
use Rattle.history.specs.StatusByte.{risen_k}
use Rattle.status.specs.Records.{record_is}
use Rattle.status.proofs.MasksLaws.{set_is, clear_is, set_if_is, contains_is}
use Rattle.status.proofs.CountsLaws.{K_risen}
use Rattle.status.proofs.RecordsLaws.{bytes_are}
use Rattle.status.proofs.failed.Goals as goal

pub returns : goal.returns
returns c =
    let tested = c.contains in
    let raised = c.risen_if-k in
    let bits-set = c.set in
    let bits-cleared = c.clear-tested in
    let warned = c.set_if in
    let r = c.args.r in
    let s = r.status.0 in
    let k-is : raised.result ≡ risen_k (record_is r) =
    raised.ensures
    ∙ ap (λ (t : Bool). cond (not t) (min 255 (suc r.k)) r.k)
    (contains_is s test_failed_this_operation_cycle tested.ensures)
    ∙ K_risen (status_of s test_failed_this_operation_cycle) r.k in
    let confirms = leb c.args.confirm raised.result in
    let bits =
    set_if_is (confirmed_dtc ∷ []) warned.result.0 confirms c.set_if-2.ensures
    (set_if_is (warning_indicator_requested ∷ []) bits-cleared.result.0 (c.args.indicator && confirms)
    warned.ensures
    (clear_is (test_not_completed_since_last_clear ∷ test_not_completed_this_operation_cycle ∷ []) bits-set.result.0
    bits-cleared.ensures
    (set_is (test_failed ∷ test_failed_this_operation_cycle ∷ pending_dtc ∷ test_failed_since_last_clear ∷ []) s
    bits-set.ensures refl))) in
    λ H A.
    record {
      after = bytes_are (search rules) (rw k-is at bits) k-is refl refl;
      fresh = ap not (contains_is s test_failed c.contains-2.ensures);
    }
