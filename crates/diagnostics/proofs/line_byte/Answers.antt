use Rattle.diagnostics.proofs.line_byte.Goals as goal

pub returns-in-All : goal.returns-in-All
returns-in-All c = rw (c.in-All.is, ← c.status_of.ensures)

pub returns-in-Matching : goal.returns-in-Matching
returns-in-Matching c = let a = c.args in
    rw c.in-Matching.is (c.byte_where_matching.ensures a.cfg.now a.state.now.debounce.now)

pub returns-in-Near : goal.returns-in-Near
returns-in-Near c = rw c.in-Near.is c.byte_where_near.ensures
