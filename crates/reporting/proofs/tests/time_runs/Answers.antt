-- `time_runs` meets its contract.
use Rattle.reporting.proofs.TickLaws.{of_no_time, by_its_cycle}
use Rattle.reporting.proofs.tests.time_runs.Goals as goal

pub returns-then-kind_of-ne-TIME : goal.returns-then-kind_of-ne-TIME
returns-then-kind_of-ne-TIME c =
    of_no_time _ c.args.board _ c.part_of-part.ensures
    c.kind_of.ensures c.if-kind_of-ne-TIME.true

pub returns : goal.returns
returns c =
    by_its_cycle _ c.args.board _ c.part_of-part.ensures
    c.kind_of.ensures c.if-kind_of-ne-TIME.false c.cycle_runs.ensures
