-- the row alone says what the configuration says of the event
use mathlib.Core.Path.{◌∙◌}
use Rattle.config.proofs.PartLaws.{limits_are}
use Rattle.config.proofs.limits_within.Goals as goal

pub returns : goal.returns
returns c =
    let a = c.args in
    (rw c.part_of.ensures at c.limits_of.ensures) ∙ limits_are a.cfg.now a.event.0
