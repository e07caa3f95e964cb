use Prim.Native.Nat.{◌-◌, ◌^◌, ◌<◌}
use Rattle.config.specs.Halving.{NarrowedTo, width}
use Rattle.config.proofs.find_code.Given as goal

-- the search is narrowed to the range, which halves at each turn
abbrev pub invariant-loop : goal.invariant-loop
invariant-loop l = NarrowedTo l.cfg l.code l.range × (width l.range < 2 ^ (9 - l.counter))

abbrev pub decreases-loop : goal.decreases-loop
decreases-loop l = 9 - l.counter
