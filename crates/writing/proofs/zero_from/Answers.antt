-- `zero_from` meets its contract.
use Rattle.writing.proofs.FilledLaws.{part_filled}
use Rattle.writing.proofs.zero_from.Goals as goal

pub returns : goal.returns
returns c =
    let a = c.args in
    part_filled 0 a.from a.block.now c.requires (c.fill.ensures.after (λ y e. e))
