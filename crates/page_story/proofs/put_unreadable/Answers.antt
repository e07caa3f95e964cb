-- `put_unreadable` meets its contract.
use Rattle.page_story.specs.Page.{unreadable_log}
use Rattle.page_text.specs.Text.{text}
use Rattle.page_story.proofs.put_unreadable.Goals as goal

pub returns-then-longer : goal.returns-then-longer
unfolding unreadable_log text
returns-then-longer c =
    rw c.if-longer.true c.put_bad.ensures

pub returns-else-longer : goal.returns-else-longer
unfolding unreadable_log text
returns-else-longer c =
    rw c.if-longer.false c.put_bad-else-longer.ensures
