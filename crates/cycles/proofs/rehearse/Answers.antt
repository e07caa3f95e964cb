-- `rehearse` meets its contract: the copies have room.
use Rattle.rehearsal.proofs.CopiesLaws.{fit_copies}
use Rattle.cycles.proofs.rehearse.Goals as goal

pub on_copies-requires-clause-room : goal.on_copies-requires-clause-room
on_copies-requires-clause-room c = fit_copies _ _ c.requires.configured c.requires.formed
