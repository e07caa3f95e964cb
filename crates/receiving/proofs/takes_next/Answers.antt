-- `takes_next` meets its contract.
use Rattle.transport.specs.Receiving.{takes_next}
use Rattle.receiving.proofs.takes_next.Goals as goal

pub returns : goal.returns
unfolding takes_next
returns c = rw c.has.ensures
