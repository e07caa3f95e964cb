use mathlib.Core.Path.{◌≡◌, sym, ◌∙◌}
use mathlib.Core.Bool.{Bool, true, ◌&&◌}
use Prim.Native.Nat.{ℕ, ◌≤◌}
use native.Mathlib.Omega.{arith}
use lib.Dec.{leb}
use lib.ListN.{length}
use lib.IntN.{pos}
use Rattle.manual.specs.Words.{between}
use Rattle.manual.specs.Configuration.{Configuration, number_at, events}
use borrow.Author.Tests.{eq-eqb, ne_eqb}
use Rattle.history.specs.Words.{holds}
use Rattle.config.proofs.Tests.{joined_is}
use Rattle.config.proofs.JudgedInOnePass.{front, judged_in_one_pass, n_most}
use Rattle.config.proofs.config_ok.Goals as goal

-- what the code gathers of the numbers in front
front_is : (cfg : Configuration) {a b d : Bool} → a ≡ between (pos 1) (pos 512) (number_at cfg 0)
    → b ≡ between (pos 1) (pos 64) (number_at cfg 1) → d ≡ between (pos 0) (pos 32) (number_at cfg 2)
    → leb 3 (length cfg) && a && b && d ≡ holds (front cfg)
front_is cfg p q r = (λ i. leb 3 (length cfg) && p i && q i && r i) ∙ joined_is _ _

-- past the test of the front
fits : (cfg : Configuration) {a b d : Bool} → a ≡ between (pos 1) (pos 512) (number_at cfg 0)
    → b ≡ between (pos 1) (pos 64) (number_at cfg 1) → d ≡ between (pos 0) (pos 32) (number_at cfg 2)
    → leb 3 (length cfg) && a && b && d ≡ true → holds (front cfg) ≡ true
fits cfg p q r t = sym (front_is cfg p q r) ∙ t

at_most : (cfg : Configuration) {n : ℕ} → n ≡ events cfg → holds (front cfg) ≡ true → n ≤ 512
at_most cfg e h = rw e (n_most cfg h)

pub returns-then-not-front_fits : goal.returns-then-not-front_fits
returns-then-not-front_fits c = rw (judged_in_one_pass, sym (front_is c.args.cfg.now c.front_in_range.ensures c.front_in_range-2.ensures c.front_in_range-3.ensures) ∙ c.if-not-front_fits.true)

pub overflow_mul-n : goal.overflow_mul-n
overflow_mul-n c = let h = at_most c.args.cfg.now c.events-n.ensures (fits c.args.cfg.now c.front_in_range.ensures c.front_in_range-2.ensures c.front_in_range-3.ensures c.if-not-front_fits.false) in omega arith

pub overflow_add-n : goal.overflow_add-n
overflow_add-n c = let h = at_most c.args.cfg.now c.events-n.ensures (fits c.args.cfg.now c.front_in_range.ensures c.front_in_range-2.ensures c.front_in_range-3.ensures c.if-not-front_fits.false) in omega arith

pub rows_fit-requires : goal.rows_fit-requires
rows_fit-requires c = record { most = at_most c.args.cfg.now c.events-n.ensures (fits c.args.cfg.now c.front_in_range.ensures c.front_in_range-2.ensures c.front_in_range-3.ensures c.if-not-front_fits.false); within = omega (arith, c.if-cfg-n.true) }

pub returns-then-cfg-n : goal.returns-then-cfg-n
returns-then-cfg-n c =
    rw (
      judged_in_one_pass,
      fits c.args.cfg.now c.front_in_range.ensures c.front_in_range-2.ensures c.front_in_range-3.ensures c.if-not-front_fits.false,
      sym c.events-n.ensures,
      eq-eqb _ _ c.if-cfg-n.true,
    )
    c.rows_fit.ensures

pub returns-else-cfg-n : goal.returns-else-cfg-n
returns-else-cfg-n c =
    rw (judged_in_one_pass, fits c.args.cfg.now c.front_in_range.ensures c.front_in_range-2.ensures c.front_in_range-3.ensures c.if-not-front_fits.false, sym c.events-n.ensures, ne_eqb _ _ c.if-cfg-n.false)
