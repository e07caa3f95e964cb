-- `stop_a` meets its contract: the code's tests are those of `stop_a`, and so are the bits and counts that they change.
use mathlib.Core.Path.{refl, ◌∙◌}
use mathlib.Core.Bool.{cond}
use mathlib.Core.List.{[], ◌∷◌}
use borrow.Author.Rules.{rules}
use Rattle.history.specs.StatusByte.{pending_dtc, warning_indicator_requested, status_of, clear_bits_if, clean_cycle}
use Rattle.status.proofs.MasksLaws.{clear_if_is, contains_is}
use Rattle.status.proofs.CountsLaws.{counted}
use Rattle.status.proofs.RecordsLaws.{bytes_are}
use Rattle.status.proofs.stop_a.Goals as goal

pub returns : goal.returns
returns c =
    let clean_is = c.clean_cycle-clean.ensures in
    let pending = c.clear_if in
    let r = c.args.r in
    let s = status_of r.status.0 in
    let warned-is =
    contains_is r.status.0 warning_indicator_requested
    c.contains.ensures in
    let (h-is, heals-is) =
    counted (clean_cycle s) (s warning_indicator_requested) r.h c.args.heal clean_is warned-is c.requires
    c.rises_if-h.ensures in
    let bits =
    clear_if_is (warning_indicator_requested ∷ []) pending.result.0 _ c.clear_if-2.ensures
    (clear_if_is (pending_dtc ∷ []) r.status.0 _ pending.ensures refl) in
    λ C A i. bytes_are (search rules)
    (bits
    ∙ (λ j. clear_bits_if (heals-is j) (warning_indicator_requested ∷ [])
    (clear_bits_if (clean_is j) (pending_dtc ∷ []) s)))
    (c.zero_if.ensures ∙ (λ j. cond (clean_is j) 0 r.k))
    (c.zero_if-2.ensures ∙ (λ j. cond (heals-is j) 0 (h-is j)))
    refl
