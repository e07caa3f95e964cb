use mathlib.Core.Path.{sym, ap, ◌∙◌}
use Prim.Native.Nat.{ℕ, ◌+◌}
use native.Mathlib.Omega.{arith}
use lib.ListN.{get_or}
use Rattle.memory.proofs.PlacesLaws.{entry_within, count_is_at}
use Rattle.memory.proofs.count_at.Goals as goal

pub overflow_add-result : goal.overflow_add-result
overflow_add-result c =
    omega (
      arith,
      c.start_of-start.ensures,
      entry_within c.args.payload_bytes c.args.place.0
          c.args.memory.now c.requires,
    )

pub bounds-memory-start : goal.bounds-memory-start
bounds-memory-start c =
    omega (
      arith,
      c.start_of-start.ensures,
      entry_within c.args.payload_bytes c.args.place.0
          c.args.memory.now c.requires,
    )

pub returns : goal.returns
returns c =
    ap (λ (k : ℕ). get_or c.args.memory.now (k + 2) 0) c.start_of-start.ensures
    ∙ sym
    (count_is_at c.args.payload_bytes c.args.memory.now
    c.args.place.0 c.requires.below)
