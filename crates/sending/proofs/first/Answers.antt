-- `first` meets its contract.
use native.Mathlib.Omega.{arith}
use lib.ListN.{take}
use lib.Seq.{length-take-le}
use Rattle.sending.proofs.FramedLaws.{framed_two}
use Rattle.sending.proofs.first.Goals as goal

pub returns : goal.returns
returns c =
    let m = c.args.message.now in
    framed_two _ _ (take 6 m) (omega (arith, length-take-le 6 m (omega arith))) c.framed.ensures
