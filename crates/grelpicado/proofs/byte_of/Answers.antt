-- `byte_of` meets its contract.
use Rattle.image.proofs.SaveLaws.{flag_is}
use Rattle.grelpicado.proofs.byte_of.Goals as goal

pub returns : goal.returns
returns c = rw c.from.ensures (flag_is c.args.flag)
