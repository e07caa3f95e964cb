-- `takes_first` meets its contract.
use Rattle.transport.specs.Receiving.{takes_first}
use Rattle.receiving.proofs.takes_first.Goals as goal

pub returns : goal.returns
unfolding takes_first
returns c = rw c.announced-size.ensures
