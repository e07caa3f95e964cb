use Rattle.diagnostics.proofs.is_asked.Goals as goal

pub returns-in-All : goal.returns-in-All
returns-in-All c = rw c.in-All.is

pub returns-in-Matching : goal.returns-in-Matching
returns-in-Matching c =
    let a = c.args in
    rw c.in-Matching.is (c.matches.ensures a.cfg.now a.state.now.debounce.now)

pub returns-in-Near : goal.returns-in-Near
returns-in-Near c = rw c.in-Near.is c.is_near.ensures
