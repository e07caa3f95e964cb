-- `faulty_has_failed` meets its contract.
use mathlib.Core.Path.{◌≡◌, ◌∙◌}
use mathlib.Core.Bool.{◌||◌}
use mathlib.Core.List.{[], ◌∷◌}
use lib.Dec.{lit<}
use Rattle.history.specs.Words.{implies}
use Rattle.history.specs.StatusByte.{test_failed, pending_dtc, confirmed_dtc, test_failed_since_last_clear, status_of}
use Rattle.status.proofs.MasksLaws.{mask_of, contains_is, shares_is, one_of_three}
use Rattle.status.proofs.faulty_has_failed.Goals as goal

pub returns : goal.returns
returns c =
    let s = c.args.s.0 in
    let faulty : c.shares.result
    ≡ (status_of s test_failed || status_of s pending_dtc || status_of s confirmed_dtc) =
    shares_is s (mask_of (test_failed ∷ pending_dtc ∷ confirmed_dtc ∷ [])) (lit< tt) c.shares.ensures
    ∙ one_of_three (status_of s test_failed) (status_of s pending_dtc) (status_of s confirmed_dtc) in
    let bit5-is = contains_is s test_failed_since_last_clear c.contains.ensures in
    c.implies.ensures ∙ (λ i. implies (faulty i) (bit5-is i))
