use native.Mathlib.Omega.{arith}
use mathlib.Core.List.{flat_map}
use Rattle.page_text.specs.Escape.{escaped_byte, escaped}
use Rattle.page_text.proofs.PageLaws.{adds_none, adds_most, ◌and_then◌}
use Rattle.page_text.proofs.FlatMapLaws.{flat_map_next}
use Rattle.page_text.proofs.Page.put_escaped.Goals as goal

pub loop-byte-init : goal.loop-byte-init
unfolding escaped flat_map
loop-byte-init c = adds_none

pub loop-byte-preserved : goal.loop-byte-preserved
unfolding escaped
loop-byte-preserved c =
    rw (flat_map_next escaped_byte _ _ c.loop-byte-test.true)
    (adds_most (omega arith) (c.loop-byte.invariant and_then c.put_byte.ensures))
