-- `entry_frames`: twice the number that `frame_bytes` is.
use Rattle.std.proofs.Common.{rules}
use Rattle.manual.specs.Configuration.{frame_bytes}
use Rattle.config.proofs.entry_frames.Goals as goal

pub returns : goal.returns
unfolding frame_bytes
returns c = search rules
