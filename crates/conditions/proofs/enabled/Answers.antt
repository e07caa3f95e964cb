-- `enabled`: nothing is left of needed without present exactly where none is missing.
use mathlib.Core.Path.{ap, ◌∙◌}
use Prim.Native.Nat.{ℕ}
use lib.Dec.{eqb}
use Rattle.manual.specs.Conditions.{none_missing}
use Rattle.manual.proofs.ConditionsLaws.{nothing_left_is}
use Rattle.conditions.proofs.enabled.Goals as goal

pub returns : goal.returns
returns c =
    let needed = c.needed_of in
    let present = c.args.present in
    ap (λ (n : ℕ). eqb n 0) c.without.ensures
    ∙ nothing_left_is needed.result present needed.ensures.1 c.ranges.present.fits
    ∙ ap (λ (n : ℕ). none_missing n present) needed.ensures.0
