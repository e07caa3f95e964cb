use mathlib.Core.Path.{◌∙◌}
use Rattle.memory.proofs.BlockLaws.{closed_end}
use Rattle.memory.proofs.block.close.Goals as goal

pub returns : goal.returns
returns c =
    let moved = c.move_down-rest in
    c.zero_from.ensures ∙ closed_end _ _ _ moved.ensures.0 ∙ moved.ensures.1
