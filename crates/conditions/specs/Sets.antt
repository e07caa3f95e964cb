-- Document 01, "count_ones of needed without present": the one set without the other, in 32 bits. Assumes nothing.
use Rattle.std.specs.Prelude.{ℕ, ◌-◌}
use Rattle.std.specs.Int.Bits.{bit_and}

abbrev pub without : ℕ → ℕ → ℕ
without needed present = bit_and needed (4294967295 - present)
