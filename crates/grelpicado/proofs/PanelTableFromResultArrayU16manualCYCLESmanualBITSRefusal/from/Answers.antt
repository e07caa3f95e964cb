-- `PanelTableFromResultArrayU16manualCYCLESmanualBITSRefusal::from` meets its contract.
use Rattle.grelpicado.proofs.PanelLaws.{table_crosses}
use Rattle.grelpicado.proofs.PanelTableFromResultArrayU16manualCYCLESmanualBITSRefusal.from.Goals as goal

pub returns : goal.returns
returns c = λ s found. rw (c.number.ensures, c.unwrap_or.ensures) (table_crosses s found c.args.answer)
