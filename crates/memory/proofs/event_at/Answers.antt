use mathlib.Core.Path.{sym, ap, ◌∙◌}
use Prim.Native.Nat.{ℕ, ◌+◌, ◌*◌}
use native.Mathlib.Omega.{arith}
use lib.ListN.{get_or}
use Rattle.memory.proofs.PlacesLaws.{entry_within, event_is_at}
use Rattle.memory.proofs.event_at.Goals as goal

pub bounds-memory-start : goal.bounds-memory-start
bounds-memory-start c =
    omega (
      arith,
      c.start_of-start.ensures,
      entry_within c.args.payload_bytes c.args.place.0
          c.args.memory.now c.requires,
    )

pub overflow_add-start : goal.overflow_add-start
overflow_add-start c =
    omega (
      arith,
      c.start_of-start.ensures,
      entry_within c.args.payload_bytes
          c.args.place.0 c.args.memory.now
          c.requires,
    )

pub bounds-memory-start-2 : goal.bounds-memory-start-2
bounds-memory-start-2 c =
    omega (
      arith,
      c.start_of-start.ensures,
      entry_within c.args.payload_bytes
          c.args.place.0
          c.args.memory.now
          c.requires,
    )

pub returns : goal.returns
returns c = (λ i. c.wide.ensures.0 i * 256 + c.wide-2.ensures.0 i)
    ∙ ap
    (λ (k : ℕ). get_or c.args.memory.now k 0 * 256 + get_or
    c.args.memory.now (k + 1) 0)
    c.start_of-start.ensures
    ∙ sym
    (event_is_at c.args.payload_bytes
    c.args.memory.now
    c.args.place.0
    c.requires.below)
