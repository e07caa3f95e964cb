use mathlib.Core.Path.{ap}
use mathlib.Core.List.{List}
use Prim.Native.Nat.{ℕ, ◌-◌}
use lib.ListN.{set}
use Rattle.manual.specs.Memory.{entry_count}
use Rattle.memory.proofs.remove.Goals as goal

pub returns : goal.returns
returns c =
    ap
    (λ (m : List ℕ). set m 0 (entry_count c.args.memory.now - 1))
    c.close_gap.ensures
