-- `turn` meets its contract.
use mathlib.Core.Path.{◌∙◌}
use Rattle.replay_step.specs.declared.Stepped.TheVariants.{Line, End, BadInput}
use Rattle.manual.specs.Lent.{as_lent}
use Rattle.page_story.specs.Story.{so_far}
use Rattle.page_story.proofs.StoryLaws.{step_is_turn}
use Rattle.page_story.proofs.turn.Goals as goal

pub step-requires : goal.step-requires
step-requires c = c.requires.0

pub after_call-requires : goal.after_call-requires
after_call-requires c = (c.requires.1, c.requires.2)

pub returns-in-Line-clause-promise : goal.returns-in-Line-clause-promise
returns-in-Line-clause-promise c =
    let a = c.args in
    c.after_call.ensures (as_lent a.state.now) _ ∙ step_is_turn a.cfg.now a.text.now
    (so_far (as_lent a.state.now) a.played) a.line.now (Line _ _ _)
    (rw c.in-Line.is at c.step.ensures.promise)

pub returns-in-End-clause-promise : goal.returns-in-End-clause-promise
returns-in-End-clause-promise c =
    let a = c.args in
    c.ended.ensures (as_lent a.state.now) _ ∙ step_is_turn a.cfg.now a.text.now
    (so_far (as_lent a.state.now) a.played) a.line.now End
    (rw c.in-End.is at c.step.ensures.promise)

pub returns-in-BadInput-clause-promise : goal.returns-in-BadInput-clause-promise
returns-in-BadInput-clause-promise c =
    let a = c.args in
    c.ended-in-BadInput.ensures (as_lent a.state.now) _ ∙ step_is_turn a.cfg.now a.text.now
    (so_far (as_lent a.state.now) a.played) a.line.now BadInput
    (rw c.in-BadInput.is at c.step.ensures.promise)
