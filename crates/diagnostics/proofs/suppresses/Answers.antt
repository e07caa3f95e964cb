use Rattle.diagnostics.proofs.suppresses.Goals as goal

pub returns : goal.returns
returns c cfg = rw (← c.byte_of.ensures)
