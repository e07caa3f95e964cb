use mathlib.Core.Path.{ap, ◌∙◌}
use Prim.Native.Nat.{ℕ}
use native.Mathlib.Omega.{arith}
use Rattle.manual.specs.Memory.{entry_width}
use Rattle.memory.specs.Block.{closed, gap_closed}
use Rattle.memory.proofs.PlacesLaws.{entry_within}
use Rattle.memory.proofs.close_gap.Goals as goal

pub close-requires : goal.close-requires
close-requires c =
    omega (
      arith,
      c.start_of-start.ensures,
      entry_within c.args.payload_bytes c.args.place.0
          c.args.memory.now c.requires,
    )

pub returns : goal.returns
unfolding gap_closed
returns c =
    c.close.ensures
    ∙ ap
    (λ (k : ℕ). closed k (entry_width c.args.payload_bytes)
    c.args.memory.now)
    c.start_of-start.ensures
