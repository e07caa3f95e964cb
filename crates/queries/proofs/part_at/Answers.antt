-- `part_at` meets its contract.
use mathlib.Core.Path.{refl}
use native.Mathlib.Omega.{arith}
use Rattle.queries.specs.Reading.{part_at}
use Rattle.queries.proofs.ReadingLaws.{part_got}
use Rattle.queries.proofs.part_at.Goals as goal

pub returns-in-Some : goal.returns-in-Some
returns-in-Some c =
    let (behind, _) = c.in-Some.ensures.lookup in
    rw c.unwrap_or.ensures
    (part_got _ _ _ _ c.get-in-Some.result _ refl behind.2 behind.3 c.get-in-Some.ensures.lookup)

pub returns-in-None : goal.returns-in-None
unfolding part_at
returns-in-None c = grind arith
