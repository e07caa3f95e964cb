use mathlib.Core.Path.{refl, sym}
use native.Mathlib.Omega.{arith}
use lib.ListN.{get_or-eq_default}
use Rattle.manual.specs.State.{stored_at}
use Rattle.status.proofs.status_of.Goals as goal

pub returns-then-e-whole : goal.returns-then-e-whole
unfolding stored_at
returns-then-e-whole c = refl

pub returns-else-e-whole : goal.returns-else-e-whole
unfolding stored_at
returns-else-e-whole c = sym (get_or-eq_default c.args.records.now 0 (omega arith))
