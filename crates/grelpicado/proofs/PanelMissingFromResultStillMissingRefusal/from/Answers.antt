-- `PanelMissingFromResultStillMissingRefusal::from` meets its contract.
use Rattle.grelpicado.proofs.PanelLaws.{missing_crosses}
use Rattle.grelpicado.proofs.PanelMissingFromResultStillMissingRefusal.from.Goals as goal

pub returns : goal.returns
returns c =
    λ s found. rw (c.number.ensures, c.unwrap_or-still.ensures) (missing_crosses s found c.args.answer)
