-- `write` meets its contract.
use Prim.Native.Nat.{◌+◌}
use lib.ListN.{length}
use Rattle.writing.specs.Writing.{written, append}
use Rattle.writing.proofs.write.Goals as goal

pub returns : goal.returns
unfolding append
returns c =
    let a = c.args in
    λ j. written (a.at + length a.bytes.now) (c.put.ensures j)
