-- `PanelLengthFromResultUsizeRefusal::from` meets its contract.
use Rattle.manual.specs.Answers.{lent_room}
use Rattle.grelpicado.proofs.PanelLaws.{length_crosses}
use Rattle.grelpicado.proofs.PanelLengthFromResultUsizeRefusal.from.Goals as goal

pub returns : goal.returns
returns c =
    λ s room found. rw (c.number.ensures, c.unwrap_or-length.ensures)
    (length_crosses s found (lent_room room) c.args.answer)
