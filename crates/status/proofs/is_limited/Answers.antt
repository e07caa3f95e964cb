use mathlib.Core.Path.{◌∙◌}
use mathlib.Core.List.{[], ◌∷◌}
use lib.Dec.{lit<}
use Rattle.history.specs.StatusByte.{confirmed_dtc, warning_indicator_requested, status_of}
use Rattle.status.proofs.MasksLaws.{mask_of, shares_is, one_of_two}
use Rattle.status.proofs.is_limited.Goals as goal

pub returns : goal.returns
returns c = let s = c.args.r.status.0 in
    shares_is s (mask_of (confirmed_dtc ∷ warning_indicator_requested ∷ [])) (lit< tt) c.shares.ensures
    ∙ one_of_two (status_of s confirmed_dtc) (status_of s warning_indicator_requested)
