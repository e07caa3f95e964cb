use borrow.Author.Tests.{lt-ltb, le-ltb}
use Rattle.history.specs.Words.{holds}
use Rattle.history.proofs.WordsLaws.{and_true}
use Rattle.memory.proofs.entry_ok.Goals as goal

pub returns-then-event-events : goal.returns-then-event-events
unfolding holds
returns-then-event-events c = simp (lt-ltb _ _ c.if-event-events.true, c.has_failed.ensures, and_true)

pub returns-else-event-events : goal.returns-else-event-events
unfolding holds
returns-else-event-events c = simp (le-ltb _ _ c.if-event-events.false)
