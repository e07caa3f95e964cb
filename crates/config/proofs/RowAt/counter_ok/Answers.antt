use mathlib.Core.Path.{◌∙◌}
use mathlib.Core.Bool.{◌&&◌}
use Rattle.config.proofs.Tests.{joined_is}
use Rattle.config.proofs.RowAt.counter_ok.Goals as goal

pub returns : goal.returns
returns c =
    (λ i.
    c.in_range.ensures i
    && c.in_range-2.ensures i
    && c.in_range-3.ensures i
    && c.in_range-4.ensures i
    && c.in_range-5.ensures i)
    ∙ joined_is _ _
