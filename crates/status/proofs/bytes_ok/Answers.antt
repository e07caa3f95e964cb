use mathlib.Core.Path.{◌∙◌}
use mathlib.Core.Bool.{not, ◌&&◌}
use lib.Dec.{eqb}
use Rattle.history.specs.Words.{implies}
use Rattle.history.specs.StatusByte.{confirmed_dtc, warning_indicator_requested}
use Rattle.status.specs.Clauses.{bytes_ok}
use Rattle.status.proofs.MasksLaws.{contains_is}
use Rattle.status.proofs.ClausesLaws.{seven_hold}
use Rattle.status.proofs.bytes_ok.Goals as goal

pub returns : goal.returns
unfolding bytes_ok
returns c =
    let r = c.args.r in
    let bit7-is = contains_is r.status.0 warning_indicator_requested c.contains-warns.ensures in
    let bit3-is = contains_is r.status.0 confirmed_dtc c.contains-confirmed.ensures in
    (λ i. c.untested_is_fresh.ensures i && c.faulty_has_failed.ensures i && c.failed_is_pending.ensures i
    && (c.implies.ensures ∙ (λ j. implies (bit7-is j) (bit3-is j))) i
    && c.pending_has_cycles.ensures i
    && (c.implies-2.ensures ∙ (λ j. implies (not (bit7-is j)) (eqb r.h 0))) i
    && (c.implies-3.ensures ∙ (λ j. implies (not (bit3-is j)) (eqb r.g 0))) i)
    ∙ seven_hold _ _ _ _ _ _ _
