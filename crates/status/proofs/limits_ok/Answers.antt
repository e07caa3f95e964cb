use mathlib.Core.Path.{◌∙◌}
use mathlib.Core.Bool.{◌&&◌}
use lib.Dec.{ltb}
use Rattle.history.specs.Words.{implies}
use Rattle.history.specs.StatusByte.{warning_indicator_requested}
use Rattle.status.specs.Clauses.{limits_ok}
use Rattle.status.proofs.MasksLaws.{contains_is}
use Rattle.status.proofs.ClausesLaws.{three_hold}
use Rattle.status.proofs.limits_ok.Goals as goal

pub returns : goal.returns
unfolding limits_ok
returns c =
    let a = c.args in
    let bit7-is = contains_is a.r.status.0 warning_indicator_requested
    c.contains.ensures in
    λ C. (λ i. (c.implies.ensures ∙ (λ j. implies (bit7-is j) a.indicator)) i
    && ltb a.r.h a.heal
    && ltb a.r.g a.age)
    ∙ three_hold _ _ _
