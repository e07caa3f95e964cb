use mathlib.Core.Path.{◌≡◌, sym, ◌∙◌}
use mathlib.Core.Bool.{Bool, true, ◌&&◌}
use Prim.Native.Nat.{ℕ, ◌^◌, ◌≤◌, ◌<◌}
use native.Mathlib.Omega.{arith}
use lib.IntN.{ℤ, pos, negsuc, nat_abs}
use lib.Signed.{mag}
use mir.Syntax.{w32}
use mir.Val.{to_z, of_z}
use Rattle.history.proofs.WordsLaws.{and_left, and_right}
use Rattle.manual.specs.Words.{between}
use Rattle.config.proofs.SignedInCode.{back}
use Rattle.debounce.proofs.SmallNumbersLaws.{between_or_zero}
use Rattle.leaf_cases.proofs.small.Goals as goal

-- what a passed test tells of a number
near : (k : ℕ) (lo hi z : ℤ) {r : Bool} → nat_abs lo ≤ k → nat_abs hi ≤ k → mag z < 2 ^ 31
    → r ≡ between lo hi (to_z w32 (of_z w32 z)) → r ≡ true → nat_abs z ≤ k
near k lo hi z l h f e t = between_or_zero true lo hi z k l h (rw (back z f) at (sym e ∙ t))

near_row : (z : ℤ) {r : Bool} → mag z < 2 ^ 31 → r ≡ between (negsuc 29999) (pos 30000) (to_z w32 (of_z w32 z)) → r ≡ true
    → nat_abs z ≤ 30000
near_row z = near 30000 (negsuc 29999) (pos 30000) z (omega arith) (omega arith)

-- all tests passed, so each did
each : (a b c d e : Bool) → (((a && b) && c) && d) && e ≡ true
    → (a ≡ true) × (b ≡ true) × (c ≡ true) × (d ≡ true) × (e ≡ true)
each a b c d e t =
    let four = and_left (((a && b) && c) && d) e t in
    let three = and_left ((a && b) && c) d four in
    let two = and_left (a && b) c three in (
      and_left a b two,
      and_right a b two,
      and_right (a && b) c three,
      and_right ((a && b) && c) d four,
      and_right (((a && b) && c) && d) e t,
    )

pub returns : goal.returns
returns c =
    let second = c.between-2 in
    let third = c.between-3 in
    let fourth = c.between-4 in
    let row = c.args.row in
    let fits = c.struct_told-1.given.1 in
    λ t.
    let t = each c.between.result second.result third.result fourth.result c.between-5.result t in
    record {
      of_row = record {
        low = near_row row.low fits.0.1 c.between.ensures t.0;
        high = near_row row.high fits.1.0.1 second.ensures t.1;
        up = near_row row.up fits.1.1.0.1 third.ensures t.2;
        down = near_row row.down fits.1.1.1.0.1 fourth.ensures t.3;
      };
      of_d =
          near 30001 (negsuc 30000) (pos 30001) c.args.d (omega arith) (omega arith)
          c.ranges.d.sfits c.between-5.ensures t.4;
    }
