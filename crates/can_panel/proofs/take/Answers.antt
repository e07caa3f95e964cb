-- `take` meets its contract.
use mathlib.Core.Path.{refl}
use Rattle.can_panel.specs.CanPanel.{take_crosses}
use Rattle.can_panel.proofs.take.Goals as goal

pub returns : goal.returns
unfolding take_crosses
returns c =
    rw (
      ← c.from-after.ensures,
      ← c.from.ensures,
      ← c.take-answer.ensures,
      c.taken_bytes.ensures,
    ) refl
