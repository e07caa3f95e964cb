use native.Mathlib.Omega.{arith}
use mathlib.Core.List.{flat_map}
use Rattle.page_text.proofs.PageLaws.{adds_none, adds_most, ◌and_then◌}
use Rattle.page_text.proofs.FlatMapLaws.{flat_map_next}
use Rattle.page_heads.specs.Heads.{number}
use Rattle.page_heads.proofs.put_numbers.Goals as goal

pub loop-n-init : goal.loop-n-init
unfolding flat_map
loop-n-init c = adds_none

pub loop-n-preserved : goal.loop-n-preserved
loop-n-preserved c =
    rw (flat_map_next number _ _ c.loop-n-test.true)
    (adds_most (omega arith) (c.loop-n.invariant and_then c.put_number.ensures))
