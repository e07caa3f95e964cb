-- For every legal history of an event, the status byte that the rules make is the byte read off that history, all eight
-- bits, under what the configuration's table gives: 1 ≤ C ≤ 255, 1 ≤ H, 1 ≤ A.
use mathlib.Core.Path.{◌≡◌, ap, fun_ext}
use lib.Dec.{T}
use Rattle.history.specs.StatusByte.{Bit, byte_of, Limits}
use Rattle.history.specs.History.{History, record_after, reading, Allowed}
use Rattle.history.specs.Legal.{legal}
use Rattle.history.proofs.StatusByteLaws.{each_bit}
use Rattle.history.proofs.Results.{bit0, bit1, bit4, bit5, bit6}
use Rattle.history.proofs.Runs.{bit2}
use Rattle.history.proofs.Counts.{bit3, bit7}

module _ (n : Limits) (a : Allowed n) (l : History) (lawful : T (legal l)) where
  pub bit_is_reading : (b : Bit) → (record_after n l).status b ≡ reading n l b
  bit_is_reading =
      each_bit (λ b. (record_after n l).status b ≡ reading n l b) (bit0 n l) (bit1 n l) (bit2 n l) (bit3 n a l lawful)
      (bit4 n l) (bit5 n l) (bit6 n l) (bit7 n a l lawful)

  pub byte_is_reading : byte_of (record_after n l).status ≡ byte_of (reading n l)
  byte_is_reading = ap byte_of (fun_ext bit_is_reading)
