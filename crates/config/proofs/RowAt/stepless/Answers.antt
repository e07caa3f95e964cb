use mathlib.Core.Path.{◌∙◌}
use mathlib.Core.Bool.{◌&&◌}
use Rattle.config.proofs.Tests.{joined_is}
use Rattle.config.proofs.RowAt.stepless.Goals as goal

pub returns : goal.returns
returns c =
    (λ i. c.is_zero.ensures i && c.is_zero-2.ensures i && c.is_zero-3.ensures i)
    ∙ joined_is _ _
