-- counter_up
use mir.Facts.{to_z-of_z}
use Rattle.manual.specs.Configuration.{column}
use Rattle.manual.specs.Debouncing.{counter_up}
use Rattle.debounce.specs.Rows.{alone}
use Rattle.debounce.proofs.SmallNumbersLaws.{held, smaller_is}
use Rattle.debounce.proofs.RowsLaws.{up_back, high_back}
use Rattle.debounce.proofs.counter_up.Goals as goal

pub returns : goal.returns
unfolding counter_up alone column
returns c =
    simp (
      held c.min.ensures.value c.min.type_inv,
      held c.raised-sum.ensures c.raised-sum.type_inv,
      high_back c.requires.of_row,
      up_back c.requires.of_row,
      to_z-of_z c.ranges.d,
    )
    (smaller_is _ _)
