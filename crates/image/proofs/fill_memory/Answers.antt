-- `fill_memory` meets its contract.
use native.Mathlib.Omega.{arith}
use Rattle.writing.proofs.WritingLaws.{append_next}
use Rattle.image.specs.Editions.{edition_number}
use Rattle.image.specs.Widened.{made_of}
use Rattle.image.proofs.RestoreLaws.{front_written}
use Rattle.image.proofs.fill_memory.Goals as goal

pub zero_from-requires : goal.zero_from-requires
zero_from-requires c =
    omega (arith, c.requires.within, append_next _ _ c.write_entries-end.ensures)

pub returns : goal.returns
returns c =
    let a = c.args in
    front_written (made_of (edition_number a.edition) a.frame_bytes a.used.now) a.memory.now c.requires.within
    c.write_entries-end.ensures c.zero_from.ensures
