-- `single` meets its contract.
use Rattle.sending.proofs.FramedLaws.{framed_one}
use Rattle.sending.proofs.single.Goals as goal

pub returns : goal.returns
returns c = framed_one _ c.args.message.now c.requires c.framed.ensures
