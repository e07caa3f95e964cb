-- `count_event` meets its contract.
use native.Mathlib.Omega.{arith}
use Rattle.manual.proofs.ConfigurationLaws.{config_tells}
use Rattle.config.proofs.PartLaws.{row_within}
use Rattle.untested.proofs.PageLaws.{row_fits, counts_next}
use Rattle.untested.proofs.count_event.Goals as goal

pub cycle_within-at-requires : goal.cycle_within-at-requires
cycle_within-at-requires c =
    let ready = c.requires in row_within _ _ ready.config ready.event_inside

pub overflow_mul-at : goal.overflow_mul-at
overflow_mul-at c =
    let ready = c.requires in
    let row = (config_tells _ ready.config).row _ ready.event_inside in
    omega (arith, row.cycle_most, c.cycle_within-at.ensures)

pub count_bits-requires : goal.count_bits-requires
count_bits-requires c =
    rw c.cycle_within-at.ensures (row_fits _ _ _ _ c.requires)

pub returns : goal.returns
returns c =
    counts_next _ _ _ _ c.requires _ c.count_bits.auto.counts
    (rw (
      ← c.cycle_within-at.ensures,
      ← c.status_of-status.ensures,
    ) c.count_bits.ensures)
