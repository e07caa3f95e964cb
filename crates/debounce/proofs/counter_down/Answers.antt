-- counter_down
use mir.Facts.{to_z-of_z}
use Rattle.manual.specs.Configuration.{column}
use Rattle.manual.specs.Debouncing.{counter_down}
use Rattle.debounce.specs.Rows.{alone}
use Rattle.debounce.proofs.SmallNumbersLaws.{held, larger_is}
use Rattle.debounce.proofs.RowsLaws.{down_back, low_back}
use Rattle.debounce.proofs.counter_down.Goals as goal

pub returns : goal.returns
unfolding counter_down alone column
returns c =
    simp (
      held c.max.ensures.value c.max.type_inv,
      held c.lowered-rest.ensures c.lowered-rest.type_inv,
      low_back c.requires.of_row,
      down_back c.requires.of_row,
      to_z-of_z c.ranges.d,
    )
    (larger_is _ _)
