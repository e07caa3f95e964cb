use native.Mathlib.Omega.{arith}
use Rattle.manual.proofs.MemoryLaws.{used_most}
use Rattle.memory.proofs.start_of.Goals as goal

pub overflow_mul-result : goal.overflow_mul-result
overflow_mul-result c =
    omega (
      arith,
      used_most c.args.payload_bytes c.args.place.0 c.requires.0 c.requires.1,
    )

pub overflow_add-result-2 : goal.overflow_add-result-2
overflow_add-result-2 c =
    omega (
      arith,
      used_most c.args.payload_bytes c.args.place.0 c.requires.0 c.requires.1,
    )
