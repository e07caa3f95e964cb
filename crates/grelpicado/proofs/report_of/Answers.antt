-- `report_of` meets its contract.
use Rattle.grelpicado.proofs.PanelLaws.{report_crosses}
use Rattle.grelpicado.proofs.report_of.Goals as goal

pub returns : goal.returns
returns c = λ records debounce memory b.
    rw (c.handed_back.ensures, c.number-number.ensures, c.verdict_number.ensures, c.unwrap_or.ensures)
    (report_crosses records debounce memory b c.args.after c.args.found c.args.answer)
