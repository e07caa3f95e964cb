use Rattle.history.specs.StatusByte.{test_failed, test_not_completed_since_last_clear}
use Rattle.manual.specs.Counter.{internal_counter}
use Rattle.status.proofs.MasksLaws.{contains_is}
use Rattle.counter.proofs.internal.Goals as goal

pub returns-then-contains : goal.returns-then-contains
unfolding internal_counter
returns-then-contains c = rw (← contains_is _ test_failed c.contains.ensures, c.if-contains.true)

pub returns-then-contains-2 : goal.returns-then-contains-2
unfolding internal_counter
returns-then-contains-2 c =
    rw (
      ← contains_is _ test_failed c.contains.ensures,
      c.if-contains.false,
      ← contains_is _ test_not_completed_since_last_clear c.contains-2.ensures,
      c.if-contains-2.true,
    )

pub returns : goal.returns
unfolding internal_counter
returns c =
    rw (
      ← contains_is _ test_failed c.contains.ensures,
      c.if-contains.false,
      ← contains_is _ test_not_completed_since_last_clear c.contains-2.ensures,
      c.if-contains-2.false,
    )
