-- `copy_state` meets its contract.
use mathlib.Core.Path.{◌∙◌}
use native.Mathlib.Omega.{arith}
use Rattle.writing.proofs.PartlyWritten.{laid_whole}
use Rattle.rehearsal.proofs.CopiesLaws.{same_blocks}
use Rattle.rehearsal.proofs.copy_state.Goals as goal

pub returns-clause-promise : goal.returns-clause-promise
returns-clause-promise c =
    let long = c.requires in
    same_blocks
    (c.copy.ensures ∙ laid_whole _ _ (omega (arith, long.records)))
    (c.copy-2.ensures ∙ laid_whole _ _ (omega (arith, long.debounce)))
    (c.copy-3.ensures ∙ laid_whole _ _ (omega (arith, long.memory)))
    c.args.state.now.board
