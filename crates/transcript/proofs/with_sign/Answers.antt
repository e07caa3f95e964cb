-- `with_sign`: a number up to the largest and its negative both fit.
use mathlib.Core.Bool.{true}
use Prim.Native.Nat.{◌^◌, ◌<◌}
use native.Mathlib.Omega.{arith}
use mir.Syntax.{w32}
use mir.Facts.{to_z_pos, to_z-of_z}
use lib.IntN.{+ℤ_idl}
use Rattle.transcript.specs.Text.{with_sign}
use Rattle.transcript.proofs.TextLaws.{sign_size}
use Rattle.transcript.proofs.with_sign.Goals as goal

pub overflow_sub-result : goal.overflow_sub-result
unfolding with_sign
overflow_sub-result c =
    let n = c.args.n in
    let h : n < 2 ^ 31 = omega arith in
    rw (to_z_pos w32 h, +ℤ_idl) (record { sfits = omega (arith, sign_size true n) })

pub returns-then-minus : goal.returns-then-minus
unfolding with_sign
returns-then-minus c =
    let n = c.args.n in
    let h : n < 2 ^ 31 = omega arith in
    rw (to_z_pos w32 h, +ℤ_idl, c.if-minus.true) (to_z-of_z {w = w32} (record { sfits = omega (arith, sign_size true n) }))

pub returns-else-minus : goal.returns-else-minus
unfolding with_sign
returns-else-minus c =
    let n = c.args.n in
    let h : n < 2 ^ 31 = omega arith in
    rw (to_z_pos w32 h, c.if-minus.false)
