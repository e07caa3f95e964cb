-- `put` meets its contract.
use mathlib.Core.Path.{refl}
use Rattle.page_text.proofs.TextLaws.{puts_of}
use Rattle.page_text.proofs.Page.put.Goals as goal

pub returns : goal.returns
returns c =
    record { same_buffer = refl; same_length = c.write-end.auto.room; puts = puts_of c.write-end.ensures }
