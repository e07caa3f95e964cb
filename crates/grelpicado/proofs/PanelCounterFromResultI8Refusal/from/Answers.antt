-- `PanelCounterFromResultI8Refusal::from` meets its contract.
use mir.Syntax.{w8}
use mir.Facts.{to_z-of_z}
use Rattle.grelpicado.proofs.PanelLaws.{counter_crosses}
use Rattle.grelpicado.proofs.PanelCounterFromResultI8Refusal.from.Goals as goal

pub returns : goal.returns
returns c =
    λ s found.
    rw (to_z-of_z {w = w8} (record { sfits = c.unwrap_or.type_inv }), c.number.ensures, c.unwrap_or.ensures)
    (counter_crosses s found c.args.answer)
