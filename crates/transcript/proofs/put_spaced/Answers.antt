-- `put_spaced` writes the space, and then the number.
use native.Mathlib.Omega.{arith}
use Rattle.writing.proofs.WritingLaws.{append_then, append_next}
use Rattle.transcript.specs.Line.{spaced}
use Rattle.transcript.proofs.put_spaced.Goals as goal

pub put_decimal-requires : goal.put_decimal-requires
put_decimal-requires c =
    omega
    (arith, c.write-next.auto.room, append_next _ _ c.write-next.ensures)

pub returns : goal.returns
unfolding spaced
returns c =
    append_then _ _ _ c.write-next.ensures
    c.put_decimal.ensures
