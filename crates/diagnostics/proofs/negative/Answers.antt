use Rattle.diagnostics.proofs.RepliesLaws.{written_is_sent}
use Rattle.diagnostics.proofs.negative.Goals as goal

pub returns : goal.returns
returns c cfg s =
    written_is_sent cfg _ _ s c.requires
    c.write.ensures
