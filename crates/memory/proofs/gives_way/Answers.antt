use Rattle.memory.proofs.gives_way.Goals as goal

pub returns : goal.returns
returns c = rw (c.is_quiet.ensures, c.priority_of.ensures)
