-- `still_missing`: the digits of needed without present, counted, and those below the lowest.
use mathlib.Core.Path.{ap, ◌∙◌}
use Prim.Native.Nat.{ℕ}
use lib.Count.{ones, count_trailing_zeros}
use Rattle.manual.specs.Conditions.{missing_of, lowest_missing_of}
use Rattle.manual.proofs.ConditionsLaws.{count_ones_is, trailing_zeros_is}
use Rattle.conditions.proofs.still_missing.Goals as goal

pub returns : goal.returns
returns c =
    let needed = c.needed_of in
    let present = c.args.present in
    let fits = c.ranges.present.fits in (
      ap ones c.without-absent.ensures ∙ count_ones_is needed.result present needed.ensures.1 fits
          ∙ ap (λ (n : ℕ). missing_of n present) needed.ensures.0,
      ap (count_trailing_zeros 32) c.without-absent.ensures
          ∙ trailing_zeros_is needed.result present needed.ensures.1 fits
          ∙ ap (λ (n : ℕ). lowest_missing_of n present) needed.ensures.0,
    )
