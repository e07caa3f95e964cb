-- `cycle_of` meets its contract.
use Rattle.page_rows.proofs.RowsLaws.{in_most, cycles_small}
use native.Mathlib.Omega.{arith}
use Rattle.page_rows.proofs.cycle_of.Goals as goal

pub cycle_of-cycle-requires : goal.cycle_of-cycle-requires
cycle_of-cycle-requires c = in_most _ _ c.requires

pub overflow_cast-result : goal.overflow_cast-result
overflow_cast-result c = record { fits = omega (arith, c.cycle_of-cycle.ensures, cycles_small _ _ c.requires) }
