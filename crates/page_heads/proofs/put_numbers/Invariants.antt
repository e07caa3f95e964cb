-- `put_numbers` meets its contract.
use mathlib.Core.List.{flat_map}
use Prim.Native.Nat.{◌*◌}
use lib.ListN.{take}
use Rattle.page_text.specs.Page.{Adds}
use Rattle.page_heads.specs.Heads.{number}
use Rattle.page_heads.proofs.put_numbers.Given as goal

abbrev pub invariant-loop-n : goal.invariant-loop-n
invariant-loop-n l = Adds (flat_map number (take l.n-index l.counts)) (24 * l.n-index) l.initial.page l.page
