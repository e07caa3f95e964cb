-- Laws of specs/StatusByte.antt: a byte and its bits.
use mathlib.Core.Path.{◌≡◌, fun_ext}
use mathlib.Core.Bool.{Bool, cond}
use Prim.Native.Nat.{ℕ, zero, suc, ◌+◌, ◌*◌, ◌/◌, ◌%◌, ◌<◌}
use native.Mathlib.Omega.{arith}
use lib.Dec.{T, eqb}
use Rattle.history.specs.Words.{same}
use Rattle.history.specs.StatusByte.{Bit, test_failed, test_failed_this_operation_cycle, pending_dtc, confirmed_dtc}
use Rattle.history.specs.StatusByte.{test_not_completed_since_last_clear, test_failed_since_last_clear}
use Rattle.history.specs.StatusByte.{test_not_completed_this_operation_cycle, warning_indicator_requested, Status}
use Rattle.history.specs.StatusByte.{byte_of, status_of}
use Rattle.history.proofs.Truth.{Row, always, truth, same_eq}

-- eight tests as a status, and back
abbrev pub eight : Bool → Bool → Bool → Bool → Bool → Bool → Bool → Bool → Status
eight b0 b1 b2 b3 b4 b5 b6 b7 test_failed = b0
eight b0 b1 b2 b3 b4 b5 b6 b7 test_failed_this_operation_cycle = b1
eight b0 b1 b2 b3 b4 b5 b6 b7 pending_dtc = b2
eight b0 b1 b2 b3 b4 b5 b6 b7 confirmed_dtc = b3
eight b0 b1 b2 b3 b4 b5 b6 b7 test_not_completed_since_last_clear = b4
eight b0 b1 b2 b3 b4 b5 b6 b7 test_failed_since_last_clear = b5
eight b0 b1 b2 b3 b4 b5 b6 b7 test_not_completed_this_operation_cycle = b6
eight b0 b1 b2 b3 b4 b5 b6 b7 warning_indicator_requested = b7

abbrev pub row_of : Status → Row 8
row_of s = (
  s test_failed,
  (
    s test_failed_this_operation_cycle,
    (
      s pending_dtc,
      (
        s confirmed_dtc,
        (
          s test_not_completed_since_last_clear,
          (
            s test_failed_since_last_clear,
            (s test_not_completed_this_operation_cycle, (s warning_indicator_requested, tt)),
          ),
        ),
      ),
    ),
  ),
)

-- a fact on each bit, by the eight
pub each_bit : (P : Bit → Type 0)
    → P test_failed
    → P test_failed_this_operation_cycle
    → P pending_dtc
    → P confirmed_dtc
    → P test_not_completed_since_last_clear
    → P test_failed_since_last_clear
    → P test_not_completed_this_operation_cycle
    → P warning_indicator_requested
    → (b : Bit)
    → P b
each_bit P p0 p1 p2 p3 p4 p5 p6 p7 test_failed = p0
each_bit P p0 p1 p2 p3 p4 p5 p6 p7 test_failed_this_operation_cycle = p1
each_bit P p0 p1 p2 p3 p4 p5 p6 p7 pending_dtc = p2
each_bit P p0 p1 p2 p3 p4 p5 p6 p7 confirmed_dtc = p3
each_bit P p0 p1 p2 p3 p4 p5 p6 p7 test_not_completed_since_last_clear = p4
each_bit P p0 p1 p2 p3 p4 p5 p6 p7 test_failed_since_last_clear = p5
each_bit P p0 p1 p2 p3 p4 p5 p6 p7 test_not_completed_this_operation_cycle = p6
each_bit P p0 p1 p2 p3 p4 p5 p6 p7 warning_indicator_requested = p7

-- the bit b of the byte of eight tests is the test
abbrev recovers : Bit → Bool → Bool → Bool → Bool → Bool → Bool → Bool → Bool → Bool
recovers b b0 b1 b2 b3 b4 b5 b6 b7 =
    same (status_of (byte_of (eight b0 b1 b2 b3 b4 b5 b6 b7)) b) (eight b0 b1 b2 b3 b4 b5 b6 b7 b)

pub status_of_byte : (s : Status) (b : Bit) → status_of (byte_of s) b ≡ s b
status_of_byte s = each_bit (λ b. status_of (byte_of s) b ≡ s b)
    (by test_failed tt) (by test_failed_this_operation_cycle tt) (by pending_dtc tt) (by confirmed_dtc tt)
    (by test_not_completed_since_last_clear tt) (by test_failed_since_last_clear tt) (by test_not_completed_this_operation_cycle tt)
    (by warning_indicator_requested tt)
  where
    by : (b : Bit) → T (always 8 (recovers b))
        → status_of (byte_of s) b
        ≡ eight (s test_failed) (s test_failed_this_operation_cycle) (s pending_dtc) (s confirmed_dtc)
        (s test_not_completed_since_last_clear) (s test_failed_since_last_clear) (s test_not_completed_this_operation_cycle)
        (s warning_indicator_requested) b
    by b t = same_eq _ _ (truth 8 (recovers b) t (row_of s))

pub status_of_byte_whole : (s : Status) → status_of (byte_of s) ≡ s
status_of_byte_whole s = fun_ext (status_of_byte s)

-- a binary digit and its weight
weighed_digit : (x w : ℕ) → x < 2 → cond (eqb x 1) w 0 ≡ x * w
weighed_digit zero w h = omega arith
weighed_digit (suc zero) w h = omega arith
weighed_digit (suc (suc x)) w h = absurd (omega arith)

halves : (s d0 d1 d2 d3 d4 d5 d6 d7 q1 q2 q3 q4 q5 q6 q7 : ℕ)
    → s ≡ 2 * q1 + d0
    → q1 ≡ 2 * q2 + d1
    → q2 ≡ 2 * q3 + d2
    → q3 ≡ 2 * q4 + d3
    → q4 ≡ 2 * q5 + d4
    → q5 ≡ 2 * q6 + d5
    → q6 ≡ 2 * q7 + d6
    → q7 ≡ d7
    → d0 * 1 + d1 * 2 + d2 * 4 + d3 * 8 + d4 * 16 + d5 * 32 + d6 * 64 + d7 * 128 ≡ s
halves s d0 d1 d2 d3 d4 d5 d6 d7 q1 q2 q3 q4 q5 q6 q7 e0 e1 e2 e3 e4 e5 e6 e7 = omega arith

pub byte_of_status : (s : ℕ) → s < 256 → byte_of (status_of s) ≡ s
byte_of_status s h =
    rw (
      weighed_digit (s / 1 % 2) 1 (omega arith),
      weighed_digit (s / 2 % 2) 2 (omega arith),
      weighed_digit (s / 4 % 2) 4 (omega arith),
      weighed_digit (s / 8 % 2) 8 (omega arith),
      weighed_digit (s / 16 % 2) 16 (omega arith),
      weighed_digit (s / 32 % 2) 32 (omega arith),
      weighed_digit (s / 64 % 2) 64 (omega arith),
      weighed_digit (s / 128 % 2) 128 (omega arith),
    )
    (halves s (s / 1 % 2) (s / 2 % 2) (s / 4 % 2) (s / 8 % 2) (s / 16 % 2) (s / 32 % 2) (s / 64 % 2) (s / 128 % 2)
    (s / 2) (s / 4) (s / 8) (s / 16) (s / 32) (s / 64) (s / 128)
    (omega arith) (omega arith) (omega arith) (omega arith) (omega arith) (omega arith) (omega arith) (omega arith))
