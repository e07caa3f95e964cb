-- `write_both` meets its contract.
use native.Mathlib.Omega.{arith}
use Rattle.writing.specs.Writing.{written}
use Rattle.writing.proofs.WritingLaws.{append_next}
use Rattle.image.proofs.WidenedLaws.{head_long, frames_written}
use Rattle.image.proofs.write_both.Goals as goal

pub write-latest_at-requires : goal.write-latest_at-requires
write-latest_at-requires c =
    let next = append_next _ _ c.write-first_at.ensures in
    omega (arith, head_long c.args.bytes.now c.requires.0, next, c.requires.1)

pub write-requires : goal.write-requires
write-requires c =
    let next = append_next _ _ c.write-first_at.ensures in
    let next2 = append_next _ _ c.write-latest_at.ensures in
    omega (arith, head_long c.args.bytes.now c.requires.0, next, next2, c.requires.1)

pub returns : goal.returns
returns c =
    let a = c.args in
    frames_written a.bytes.now c.requires.0 (written a.at a.memory.now)
    c.write-first_at.ensures
    c.write-latest_at.ensures c.write.ensures
