-- `code_of` meets its contract.
use Rattle.page_rows.proofs.RowsLaws.{in_most, codes_small}
use native.Mathlib.Omega.{arith}
use Rattle.page_rows.proofs.code_of.Goals as goal

pub code_of-code-requires : goal.code_of-code-requires
code_of-code-requires c = in_most _ _ c.requires

pub overflow_cast-result : goal.overflow_cast-result
overflow_cast-result c = record { fits = omega (arith, c.code_of-code.ensures, codes_small _ _ c.requires) }
