use mathlib.Core.Path.{◌∙◌}
use mathlib.Core.Bool.{◌&&◌}
use native.Mathlib.Omega.{arith}
use Rattle.config.proofs.PartLaws.{rows_within}
use Rattle.judgement.proofs.WellFormedLaws.{records_parted}
use Rattle.judgement.proofs.records_ok.Goals as goal

pub all_bytes_ok-requires : goal.all_bytes_ok-requires
all_bytes_ok-requires c = omega (arith, c.requires.as_long, c.events-n.ensures)

pub all_limits_kept-requires : goal.all_limits_kept-requires
all_limits_kept-requires c =
    let pre = c.requires in
    let n = c.events-n.ensures in (rows_within _ pre.accepted n, omega (arith, pre.as_long, n))

pub returns : goal.returns
returns c =
    let a = c.args in
    (λ i. c.all_bytes_ok.ensures i && c.all_limits_kept.ensures i)
    ∙ records_parted a.cfg.now a.records.now c.requires.accepted
    c.events-n.ensures
