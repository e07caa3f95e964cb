-- `put_listed` meets its contract.
use Rattle.page_text.proofs.PageLaws.{adds_most}
use native.Mathlib.Omega.{arith}
use Rattle.page_rows.proofs.put_listed.Goals as goal

pub returns-in-Untested : goal.returns-in-Untested
returns-in-Untested c =
    rw c.in-Untested.is (adds_most (omega arith) c.put_untested.ensures)

pub returns-in-Failed : goal.returns-in-Failed
returns-in-Failed c =
    rw c.in-Failed.is (adds_most (omega arith) c.put_failed.ensures)

pub returns-in-All : goal.returns-in-All
returns-in-All c = rw c.in-All.is c.signal_row.ensures
