-- Laws of a count that rises by one where a test holds: K, h and g.
use mathlib.Core.Path.{◌≡◌, refl, ◌∙◌}
use mathlib.Core.Bool.{Bool, true, false, not, ◌&&◌, cond}
use Prim.Native.Nat.{ℕ, suc, min, ◌<◌}
use native.Mathlib.Omega.{arith}
use lib.Dec.{eqb}

-- ---- K

-- "if bit 1 was clear, K rises by one, at most 255"
pub K_risen : (bit : Bool) (K : ℕ) → cond (not bit) (min 255 (suc K)) K ≡ cond bit K (min 255 (suc K))
K_risen true K = refl
K_risen false K = refl

-- ---- h and g

-- a count that rises where two tests hold, with room to rise, and whether it then stands at its limit N
pub counted : {a b : Bool} (a' b' : Bool) (c N : ℕ) {c' : ℕ} → a ≡ a' → b ≡ b' → c < 255
    → c' ≡ cond (a && b) (min 255 (suc c)) c
    → (c' ≡ cond (a' && b') (suc c) c) × (a && b && eqb c' N ≡ a' && b' && eqb (suc c) N)
counted a' b' c N p q h e =
    let risen-is = e ∙ (λ i. cond (p i && q i) (min 255 (suc c)) c) ∙ one_more (a' && b') in
    (risen-is, (λ i. p i && q i && eqb (risen-is i) N) ∙ at_limit (a' && b'))
  where
    one_more : (on : Bool) → cond on (min 255 (suc c)) c ≡ cond on (suc c) c
    one_more true = omega arith
    one_more false = refl

    at_limit : (on : Bool) → on && eqb (cond on (suc c) c) N ≡ on && eqb (suc c) N
    at_limit true = refl
    at_limit false = refl
