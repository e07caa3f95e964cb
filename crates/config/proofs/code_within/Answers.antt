-- the row alone says what the configuration says of the event
use mathlib.Core.Path.{ap, ◌∙◌}
use native.Mathlib.Omega.{arith}
use Rattle.manual.specs.Words.{nat_of}
use Rattle.config.proofs.PartLaws.{column_is}
use Rattle.config.proofs.code_within.Goals as goal

pub returns : goal.returns
returns c =
    let a = c.args in
    (rw c.part_of.ensures at c.code_of.ensures) ∙ ap nat_of (column_is a.cfg.now a.event.0 1 (omega arith))
