-- A law of tests by its truth table, which the check computes.
use mathlib.Core.Path.{◌≡◌, refl, sym, subst}
use mathlib.Core.Bool.{Bool, true, false, ◌&&◌}
use Prim.Native.Nat.{ℕ, zero, suc}
use lib.Dec.{T}
use Rattle.history.specs.Words.{implies, same}

-- a law of k tests, and k tests
abbrev pub Law : ℕ → Type 0
Law zero = Bool
Law (suc k) = Bool → Law k

abbrev pub Row : ℕ → Type 0
Row zero = Unit {0}
Row (suc k) = Bool × Row k

abbrev pub at : (k : ℕ) → Law k → Row k → Bool
at zero p r = p
at (suc k) p r = at k (p r.0) r.1

-- the law holds in every row of its table
abbrev pub always : (k : ℕ) → Law k → Bool
always zero p = p
always (suc k) p = always k (p true) && always k (p false)

pub both_left : (a b : Bool) → T (a && b) → T a
both_left true b t = tt
both_left false b t = t

pub both_right : (a b : Bool) → T (a && b) → T b
both_right true b t = t
both_right false b t = absurd t

pub truth : (k : ℕ) (p : Law k) → T (always k p) → (r : Row k) → T (at k p r)
truth zero p t r = t
truth (suc k) p t r = go r.0 (λ q u. truth k q u r.1)
  where
    go : (b : Bool) → ((q : Law k) → T (always k q) → T (at k q r.1)) → T (at k (p b) r.1)
    go true ih = ih (p true) (both_left (always k (p true)) (always k (p false)) t)
    go false ih = ih (p false) (both_right (always k (p true)) (always k (p false)) t)

pub same_eq : (a b : Bool) → T (same a b) → a ≡ b
same_eq true true t = refl
same_eq true false t = absurd t
same_eq false true t = absurd t
same_eq false false t = refl

pub implied : (a b : Bool) → T (implies a b) → T a → T b
implied true b t u = t
implied false b t u = absurd u

pub so : (a : Bool) → a ≡ true → T a
so a e = subst T (sym e) tt

pub yes_so : (a : Bool) → T a → a ≡ true
yes_so true t = refl
yes_so false t = absurd t
