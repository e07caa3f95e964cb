use mathlib.Core.Path.{◌≡◌, ◌∙◌}
use mathlib.Core.Bool.{not, ◌&&◌, ◌||◌}
use mathlib.Core.List.{[], ◌∷◌}
use lib.Dec.{eqb, lit<}
use Rattle.history.specs.StatusByte.{pending_dtc, confirmed_dtc, warning_indicator_requested, status_of}
use Rattle.status.proofs.MasksLaws.{mask_of, shares_is, one_of_three}
use Rattle.status.proofs.rests_at_stop.Goals as goal

pub returns : goal.returns
returns c =
    let r = c.args.r in
    let s = status_of r.status.0 in
    let to-do : c.shares-to_do.result ≡ (s pending_dtc || s confirmed_dtc || s warning_indicator_requested) =
    shares_is r.status.0 (mask_of (pending_dtc ∷ confirmed_dtc ∷ warning_indicator_requested ∷ [])) (lit< tt)
    c.shares-to_do.ensures
    ∙ one_of_three (s pending_dtc) (s confirmed_dtc) (s warning_indicator_requested) in
    λ i. not (c.clean_cycle.ensures i) || (not (to-do i) && eqb r.k 0)
