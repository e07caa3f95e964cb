use Rattle.diagnostics.proofs.byte_where_matching.Goals as goal

pub returns-then-matches : goal.returns-then-matches
returns-then-matches c = λ cfg d. rw (← c.matches.ensures cfg d, c.if-matches.true, ← c.status_of.ensures)

pub returns : goal.returns
returns c = λ cfg d. rw (← c.matches.ensures cfg d, c.if-matches.false)
