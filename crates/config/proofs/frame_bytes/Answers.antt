use Rattle.manual.specs.Configuration.{frame_bytes}
use Rattle.config.proofs.frame_bytes.Goals as goal

pub returns : goal.returns
unfolding frame_bytes
returns c = c.count_at.ensures
