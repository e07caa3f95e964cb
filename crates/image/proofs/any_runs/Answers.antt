-- `any_runs` meets its contract.
use mathlib.Core.Path.{◌∙◌}
use Rattle.image.proofs.SaveLaws.{any_is_true}
use Rattle.image.proofs.any_runs.Goals as goal

pub returns : goal.returns
returns c = c.contains.ensures.value ∙ any_is_true c.args.board.running
