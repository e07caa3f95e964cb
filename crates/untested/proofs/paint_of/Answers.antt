-- `paint_of` meets its contract.
use Rattle.history.specs.StatusByte.{test_failed}
use Rattle.manual.specs.Untested.{paint_of}
use Rattle.status.proofs.MasksLaws.{contains_is}
use Rattle.untested.proofs.paint_of.Goals as goal

pub returns-then-is_grey : goal.returns-then-is_grey
unfolding paint_of
returns-then-is_grey c = rw (← c.is_grey.ensures, c.if-is_grey.true)

pub returns-then-contains : goal.returns-then-contains
unfolding paint_of
returns-then-contains c =
    rw (
      ← c.is_grey.ensures,
      c.if-is_grey.false,
      ← c.status_of-status.ensures,
      ← contains_is c.status_of-status.result.0 test_failed c.contains.ensures,
      c.if-contains.true,
    )

pub returns : goal.returns
unfolding paint_of
returns c =
    rw (
      ← c.is_grey.ensures,
      c.if-is_grey.false,
      ← c.status_of-status.ensures,
      ← contains_is c.status_of-status.result.0 test_failed c.contains.ensures,
      c.if-contains.false,
    )
