-- `write_image` meets its contract.
use mathlib.Core.Path.{◌∙◌}
use native.Mathlib.Omega.{arith}
use mathlib.Core.Bool.{cond}
use Rattle.writing.proofs.WritingLaws.{append_next}
use Rattle.image.proofs.SaveLaws.{bodies_written, flag_is}
use Rattle.image.proofs.write_image.Goals as goal

pub write-memory_at-requires : goal.write-memory_at-requires
write-memory_at-requires c = omega (arith, append_next _ _ c.write-records_at.ensures)

pub write-overflow_at-requires : goal.write-overflow_at-requires
write-overflow_at-requires c =
    let next = append_next _ _ c.write-records_at.ensures in
    let next2 = append_next _ _ c.write-memory_at.ensures in
    omega (arith, next, next2)

pub write-requires : goal.write-requires
write-requires c =
    let next = append_next _ _ c.write-records_at.ensures in
    let next2 = append_next _ _ c.write-memory_at.ensures in
    let next3 = append_next _ _ c.write-overflow_at.ensures in
    omega (arith, next, next2, next3)

pub returns : goal.returns
returns c =
    let a = c.args in
    bodies_written a.records.now a.used.now a.room.now (cond a.overflow 1 0) c.requires.1
    c.header-head.ensures
    (c.from.ensures ∙ flag_is a.overflow) c.write-records_at.ensures c.write-memory_at.ensures
    c.write-overflow_at.ensures
    c.write.ensures
