-- `with_event` meets its contract.
use Rattle.reporting.proofs.TickLaws.{untold_added}
use Rattle.reporting.proofs.one_tick.with_event.Goals as goal

pub returns-in-Untold : goal.returns-in-Untold
returns-in-Untold c = untold_added c.args.rise c.in-Untold.is
