use native.Mathlib.Nat.{mul_comm}
use native.Mathlib.Omega.{arith}
use Rattle.manual.specs.Memory.{entry_width}
use Rattle.manual.proofs.MemoryLaws.{used_most}
use Rattle.memory.proofs.memory_length.Goals as goal

pub overflow_mul-result : goal.overflow_mul-result
overflow_mul-result c =
    omega (
      arith,
      mul_comm c.args.places (entry_width c.args.payload_bytes),
      used_most c.args.payload_bytes c.args.places c.requires.1 c.requires.0,
    )

pub overflow_add-result-2 : goal.overflow_add-result-2
overflow_add-result-2 c =
    omega (
      arith,
      mul_comm c.args.places (entry_width c.args.payload_bytes),
      used_most c.args.payload_bytes c.args.places c.requires.1 c.requires.0,
    )
