use mathlib.Core.Path.{◌∙◌}
use Rattle.manual.specs.Counts.{numbers}
use Rattle.counts.proofs.FiveLaws.{past_paired}
use Rattle.counts.proofs.some_past.Goals as goal

pub returns : goal.returns
returns c = c.carries_past.ensures ∙ rw c.in_order.ensures (past_paired (numbers c.args.rise) c.args.counts.now)
