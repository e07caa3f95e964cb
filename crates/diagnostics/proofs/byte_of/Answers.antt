use mathlib.Core.Path.{sym}
use lib.ListN.{get_or-eq_default}
use Rattle.diagnostics.proofs.byte_of.Goals as goal

pub returns-else-index-request : goal.returns-else-index-request
returns-else-index-request c = sym (get_or-eq_default c.args.request.now 0 c.if-index-request.false)
