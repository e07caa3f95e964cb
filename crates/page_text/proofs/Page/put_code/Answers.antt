-- `put_code` meets its contract.
use native.Mathlib.Nat.{le_refl}
use Rattle.page_text.specs.Numbers.{hex_code}
use Rattle.page_text.proofs.PageLaws.{adds_most}
use Rattle.page_text.proofs.Page.put_code.Goals as goal

pub returns : goal.returns
unfolding hex_code
returns c =
    rw (← c.hex_code.ensures)
    (adds_most (rw c.hex_code.ensures (le_refl 7))
    c.put.ensures)
