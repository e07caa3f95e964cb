-- `pending_has_cycles` meets its contract.
use mathlib.Core.Path.{◌∙◌}
use lib.Dec.{leb}
use Rattle.history.specs.Words.{same}
use Rattle.history.specs.StatusByte.{pending_dtc}
use Rattle.status.proofs.MasksLaws.{contains_is}
use Rattle.status.proofs.ClausesLaws.{equal_same}
use Rattle.status.proofs.pending_has_cycles.Goals as goal

pub returns : goal.returns
returns c =
    let r = c.args.r in
    equal_same (leb 1 r.k) c.contains.result
    ∙ (λ i. same (leb 1 r.k) (contains_is r.status.0 pending_dtc c.contains.ensures i))
