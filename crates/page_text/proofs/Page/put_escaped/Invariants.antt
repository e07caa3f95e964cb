-- `put_escaped` meets its contract.
use Prim.Native.Nat.{◌*◌}
use lib.ListN.{take}
use Rattle.page_text.specs.Page.{Adds}
use Rattle.page_text.specs.Escape.{escaped}
use Rattle.page_text.proofs.Page.put_escaped.Given as goal

abbrev pub invariant-loop-byte : goal.invariant-loop-byte
invariant-loop-byte l = Adds (escaped (take l.byte-index l.name)) (6 * l.byte-index) l.initial.self l.self
