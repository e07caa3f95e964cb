-- "each event whose counter is 1 to 126": such a counter is its own byte.
use mathlib.Core.Path.{◌≡◌, refl, sym, ap, ◌∙◌}
use mathlib.Core.Bool.{Bool, true, ◌&&◌}
use native.Mathlib.Nat.{mod-eq_of_lt}
use native.Mathlib.Omega.{arith}
use lib.Dec.{T}
use lib.IntN.{ℤ, pos, negsuc, nat_abs}
use lib.Signed.{le_z, non_neg}
use mir.Syntax.{w8}
use mir.Val.{Fits}
use borrow.Author.Tests.{leb-true}
use Rattle.manual.specs.Words.{between, twos_complement}
use Rattle.manual.proofs.WordsLaws.{clash, between_from, between_to}

-- the two tests of the code
pub near_is : {z : ℤ} {c : ℤ} {r : Bool} → r ≡ (le_z (pos 1) z && le_z z (pos 126)) → z ≡ c
    → r ≡ between (pos 1) (pos 126) c
unfolding between
near_is e q = e ∙ ap (λ (z : ℤ). le_z (pos 1) z && le_z z (pos 126)) q

pub near_fits : (z : ℤ) → between (pos 1) (pos 126) z ≡ true → T (non_neg z) × Fits w8 (nat_abs z)
near_fits (pos n) t =
    (tt, record { fits = omega (arith, leb-true n 126 (between_to (pos 1) (pos 126) (pos n) t)) })
near_fits (negsuc n) t = clash true refl (sym (between_from (pos 1) (pos 126) (negsuc n) t))

pub near_byte : (z : ℤ) → between (pos 1) (pos 126) z ≡ true → nat_abs z ≡ twos_complement z
unfolding twos_complement
near_byte (pos n) t =
    let small = leb-true n 126 (between_to (pos 1) (pos 126) (pos n) t) in sym (mod-eq_of_lt (omega arith))
near_byte (negsuc n) t = clash true refl (sym (between_from (pos 1) (pos 126) (negsuc n) t))
