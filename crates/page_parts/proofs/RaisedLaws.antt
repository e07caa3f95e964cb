-- A counter of a byte with a sign, raised by 128, is a number below 256.
use mathlib.Core.Path.{◌≡◌, refl}
use Prim.Native.Nat.{suc, ◌<◌}
use native.Mathlib.Omega.{arith}
use lib.IntN.{ℤ, pos, negsuc, ◌+ℤ◌}
use borrow.Author.Tests.{le-ltb}
use mir.Syntax.{w8, w16}
use mir.Val.{SFits}
use Rattle.manual.specs.Words.{nat_of}

pub wider : {z : ℤ} → SFits w8 z → SFits w16 z
wider s = record { sfits = omega (arith, s.sfits) }

pub raised_is : (z : ℤ) → SFits w8 z → z +ℤ pos 128 ≡ pos (nat_of (z +ℤ pos 128))
raised_is (pos n) s = refl
raised_is (negsuc n) s = rw (le-ltb 128 (suc n) (omega (arith, s.sfits)))

pub raised_few : (z : ℤ) → SFits w8 z → nat_of (z +ℤ pos 128) < 256
raised_few (pos n) s = omega (arith, s.sfits)
raised_few (negsuc n) s = rw (le-ltb 128 (suc n) (omega (arith, s.sfits))) (omega arith)
