use mathlib.Core.Path.{refl, sym, ap, ◌∙◌}
use mathlib.Core.Bool.{Bool, ◌&&◌}
use native.Mathlib.Omega.{arith}
use lib.Dec.{eqb}
use Rattle.history.proofs.WordsLaws.{and_true}
use Rattle.memory.proofs.JudgementLaws.{all_gathered, all_through}
use Rattle.memory.proofs.all_zero.Goals as goal

pub loop-byte-init : goal.loop-byte-init
loop-byte-init c = (omega arith, refl)

pub loop-byte-preserved : goal.loop-byte-preserved
loop-byte-preserved c =
    let loop = c.loop-byte in (
      omega arith,
      all_gathered 0 (λ b. eqb b 0) c.args.bytes.now loop.byte-index loop.zero
          c.loop-byte-test.true
          ∙ loop.invariant.1,
    )

pub returns : goal.returns
returns c =
    let loop = c.loop-byte in
    let past = all_through 0 (λ b. eqb b 0) c.args.bytes.now loop.byte-index c.loop-byte-test.false in
    sym (and_true loop.zero) ∙ ap (λ (b : Bool). loop.zero && b) (sym past) ∙ loop.invariant.1
