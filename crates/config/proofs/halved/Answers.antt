use native.Mathlib.Omega.{arith}
use Rattle.config.proofs.HalvingLaws.{middle_below, upper_half, lower_half}
use Rattle.config.proofs.halved.Goals as goal

pub code_of-requires : goal.code_of-requires
code_of-requires c = middle_below _ _ _ c.requires

pub returns-then-code_of-code : goal.returns-then-code_of-code
returns-then-code_of-code c =
    upper_half _ _ _ c.requires _ (omega arith) (omega arith) c.if-range.false
    (rw c.code_of.ensures at c.if-code_of-code.true)

pub returns-else-code_of-code : goal.returns-else-code_of-code
returns-else-code_of-code c =
    lower_half _ _ _ c.requires
    (rw c.code_of.ensures at c.if-code_of-code.false)
