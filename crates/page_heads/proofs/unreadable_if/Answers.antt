-- `unreadable_if` meets its contract.
use Rattle.page_text.proofs.PageLaws.{adds_none}
use Rattle.page_heads.proofs.unreadable_if.Goals as goal

pub returns-in_default : goal.returns-in_default
returns-in_default c = rw c.in_default.is adds_none
