-- What debouncing reads of an event's part is what it reads of the event's row.
use mathlib.Core.Path.{◌∙◌, ap}
use Prim.Native.Nat.{ℕ}
use native.Mathlib.Omega.{arith}
use Rattle.manual.specs.Words.{nat_of}
use Rattle.manual.specs.Configuration.{Configuration}
use Rattle.config.specs.Rows.{part_of}
use Rattle.config.proofs.PartLaws.{column_is}
use Rattle.debounce.specs.declared.Row.{Row}
use Rattle.debounce.specs.Rows.{RowOf}

pub row_is : (cfg : Configuration) (e : ℕ) {row : Row} → RowOf (part_of cfg e) 0 row → RowOf cfg e row
row_is cfg e o = record {
  kind_is = o.kind_is ∙ ap nat_of (column_is cfg e 4 (omega arith));
  low_is = o.low_is ∙ column_is cfg e 5 (omega arith);
  high_is = o.high_is ∙ column_is cfg e 6 (omega arith);
  up_is = o.up_is ∙ column_is cfg e 7 (omega arith);
  down_is = o.down_is ∙ column_is cfg e 8 (omega arith);
  jumps_is = o.jumps_is ∙ ap nat_of (column_is cfg e 9 (omega arith));
}
