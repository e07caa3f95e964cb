use Rattle.manual.specs.Answers.{first_that_applies}
use Rattle.clearing.proofs.judge_code.Goals as goal

pub returns-then-is_unknown : goal.returns-then-is_unknown
unfolding first_that_applies
returns-then-is_unknown c = rw (← c.is_unknown.ensures, c.if-is_unknown.true)

pub returns : goal.returns
unfolding first_that_applies
returns c = rw (← c.is_unknown.ensures, c.if-is_unknown.false)
