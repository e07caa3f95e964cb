-- `put_why` meets its contract.
use native.Mathlib.Omega.{arith}
use Rattle.page_text.specs.Text.{text}
use Rattle.page_text.proofs.PageLaws.{adds_most}
use Rattle.page_parts.specs.Signals.{why}
use Rattle.page_parts.proofs.put_why.Goals as goal

pub returns-then-runs : goal.returns-then-runs
unfolding why text
returns-then-runs c =
    rw c.if-runs.true
    (adds_most (omega arith) c.put.ensures)

pub returns-else-runs : goal.returns-else-runs
unfolding why text
returns-else-runs c =
    rw c.if-runs.false
    (adds_most (omega arith) c.put-else-runs.ensures)
