use mir.Facts.{to_z-of_z}
use Rattle.config.proofs.SignedInCode.{count_is, no_count}
use Rattle.replay_step.proofs.BeginningLaws.{argument_fits}
use Rattle.replay_step.proofs.count_of.Goals as goal

pub overflow_cast-result : goal.overflow_cast-result
overflow_cast-result c =
    let e = to_z-of_z c.ranges.number in rw e
    (argument_fits c.args.number c.ranges.number.sfits (rw e at c.if-number-lt0.false))

pub returns-then-number-lt0 : goal.returns-then-number-lt0
returns-then-number-lt0 c = no_count c.args.number (rw (to_z-of_z c.ranges.number) at c.if-number-lt0.true)

pub returns-else-number-lt0 : goal.returns-else-number-lt0
returns-else-number-lt0 c =
    let e = to_z-of_z c.ranges.number in rw e (count_is c.args.number (rw e at c.if-number-lt0.false))
