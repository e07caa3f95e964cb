use Rattle.manual.specs.Configuration.{events}
use Rattle.config.proofs.events.Goals as goal

pub returns : goal.returns
unfolding events
returns c = c.count_at.ensures
