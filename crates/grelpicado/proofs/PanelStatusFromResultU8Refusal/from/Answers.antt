-- `PanelStatusFromResultU8Refusal::from` meets its contract.
use Rattle.grelpicado.proofs.PanelLaws.{status_crosses}
use Rattle.grelpicado.proofs.PanelStatusFromResultU8Refusal.from.Goals as goal

pub returns : goal.returns
returns c = λ s found. rw (c.number.ensures, c.unwrap_or.ensures) (status_crosses s found c.args.answer)
