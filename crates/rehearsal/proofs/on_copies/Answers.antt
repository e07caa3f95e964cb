-- `on_copies` meets its contract.
use Rattle.rehearsal.proofs.on_copies.Goals as goal

pub returns : goal.returns
returns g c = (_, _, c.copy_state.ensures.promise, c.work.ensures)
