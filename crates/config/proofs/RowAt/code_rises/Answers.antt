use Rattle.config.proofs.SignedInCode.{back}
use Rattle.config.proofs.RowsLaws.{rises_after}
use Rattle.config.proofs.RowAt.code_rises.Goals as goal

pub returns : goal.returns
returns c =
    rw (
      rises_after _ _ c.if-self-eq0.false,
      back c.number.result c.number.type_inv,
      back c.number-2.result c.number-2.type_inv,
      c.number.ensures,
      c.number-2.ensures,
    )
