use Rattle.manual.specs.Configuration.{places}
use Rattle.config.proofs.places.Goals as goal

pub returns : goal.returns
unfolding places
returns c = c.count_at.ensures
