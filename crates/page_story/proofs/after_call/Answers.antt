-- `after_call` meets its contract.
use Rattle.page_story.proofs.after_call.Goals as goal

pub returns : goal.returns
returns c =
    λ s t. rw (← c.one_more_if.ensures)
