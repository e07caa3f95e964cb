use Rattle.clearing.proofs.covers.Goals as goal

pub returns : goal.returns
returns c = rw c.code_within.ensures
