use mathlib.Core.Path.{◌∙◌}
use mathlib.Core.Bool.{◌&&◌}
use Rattle.status.specs.Records.{record_is, limits}
use Rattle.status.specs.Clauses.{bytes_ok, limits_ok}
use Rattle.status.proofs.ClausesLaws.{parted}
use Rattle.status.proofs.record_ok.Goals as goal

pub returns : goal.returns
returns c =
    let a = c.args in
    λ C.
    let n = limits C a.heal a.age a.indicator in
    ◌∙◌ {b = bytes_ok (record_is a.r) && limits_ok n (record_is a.r)}
    (λ i. c.bytes_ok.ensures i && c.limits_ok.ensures C i)
    (parted n (record_is a.r))
