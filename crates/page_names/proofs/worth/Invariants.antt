-- `worth` meets its contract.
use mathlib.Core.Path.{◌≡◌}
use Rattle.page_names.specs.Names.{worth}
use Rattle.page_names.proofs.worth.Given as goal

abbrev pub invariant-loop-b : goal.invariant-loop-b
invariant-loop-b l = l.n ≡ worth l.b-index l.line
