-- `is_grey` meets its contract.
use Rattle.history.specs.StatusByte.{test_not_completed_this_operation_cycle}
use Rattle.manual.specs.Untested.{is_grey}
use Rattle.status.proofs.MasksLaws.{contains_is}
use Rattle.untested.proofs.is_grey.Goals as goal

pub returns : goal.returns
unfolding is_grey
returns c =
    rw (
      contains_is c.status_within-status.result.0 test_not_completed_this_operation_cycle
          c.contains.ensures,
      c.runs-runs.ensures,
      c.cycle_within.ensures,
      c.status_within-status.ensures,
    )
