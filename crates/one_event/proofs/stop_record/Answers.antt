use mathlib.Core.Path.{sym, ◌∙◌}
use native.Mathlib.Omega.{arith}
use Rattle.config.proofs.PartLaws.{row_within}
use Rattle.one_event.proofs.LentLaws.{may_stop, rests_there, stopped_there}
use borrow.Author.Rules.{rules}
use Rattle.one_event.proofs.stop_record.Goals as goal

pub read_record-before-requires : goal.read_record-before-requires
read_record-before-requires c = omega (arith, c.requires.below, c.requires.records_as_long)

pub returns-then-rests_at_stop : goal.returns-then-rests_at_stop
returns-then-rests_at_stop c =
    let a = c.args in
    rests_there a.cfg.now a.event.0 a.records.now c.read_record-before.result
    c.read_record-before.ensures (search rules)
    (sym c.rests_at_stop.ensures ∙ c.if-rests_at_stop.true)

pub limits_within-limits-requires : goal.limits_within-limits-requires
limits_within-limits-requires c =
    row_within _ _ c.requires.configured
    c.requires.below

pub stopped-after-requires : goal.stopped-after-requires
stopped-after-requires c =
    may_stop c.requires
    c.read_record-before.result c.read_record-before.ensures

pub write_record-requires : goal.write_record-requires
write_record-requires c =
    omega (arith, c.requires.below, c.requires.records_as_long)

pub returns : goal.returns
returns c =
    let a = c.args in
    stopped_there a.cfg.now a.event.0 a.records.now c.read_record-before.result c.read_record-before.ensures
    c.limits_within-limits.result
    c.stopped-after.result c.limits_within-limits.ensures c.stopped-after.ensures c.write_record.ensures
