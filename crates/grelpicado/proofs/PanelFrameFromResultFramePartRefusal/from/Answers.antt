-- `PanelFrameFromResultFramePartRefusal::from` meets its contract.
use Rattle.grelpicado.proofs.PanelLaws.{frame_crosses}
use Rattle.grelpicado.proofs.PanelFrameFromResultFramePartRefusal.from.Goals as goal

pub returns : goal.returns
returns c =
    λ s found. rw (c.number.ensures, c.unwrap_or-part.ensures) (frame_crosses s found c.args.answer)
