-- `count_bits` meets its contract.
use lib.ListN.{take, drop}
use Rattle.untested.proofs.PageLaws.{Row, Left}
use Rattle.untested.proofs.count_bits.Given as goal

-- the counts of the bits passed have risen
abbrev pub invariant-loop-count : goal.invariant-loop-count
invariant-loop-count l =
    Row l.byte l.count-index (take 8 (drop l.at l.fn.counts)) l.count-items × Left l.byte l.count-index l.rest
