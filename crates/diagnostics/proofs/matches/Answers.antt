use Rattle.diagnostics.proofs.matches.Goals as goal

pub returns : goal.returns
returns c cfg d = rw (← c.status_of-status.ensures)
