use native.Mathlib.Omega.{arith}
use Rattle.manual.proofs.MemoryLaws.{used_most}
use Rattle.memory.proofs.frame_start.Goals as goal

pub overflow_add-result : goal.overflow_add-result
overflow_add-result c =
    omega (
      arith,
      c.start_of.ensures,
      used_most c.args.payload_bytes c.args.place.0 c.requires.0 c.requires.1,
    )
