-- `PanelPaintFromResultPaintRefusal::from` meets its contract.
use Rattle.grelpicado.proofs.PanelLaws.{paint_crosses}
use Rattle.grelpicado.proofs.PanelPaintFromResultPaintRefusal.from.Goals as goal

pub returns : goal.returns
returns c = λ s found. rw (c.number.ensures, c.paint_number.ensures, c.unwrap_or.ensures) (paint_crosses s found c.args.answer)
