-- `stop_b` meets its contract: the code's tests are those of `stop_b`, and so are the bits and counts that they change.
use mathlib.Core.Path.{refl, ◌∙◌}
use mathlib.Core.Bool.{cond}
use mathlib.Core.List.{[], ◌∷◌}
use borrow.Author.Rules.{rules}
use Rattle.history.specs.StatusByte.{confirmed_dtc, warning_indicator_requested, status_of, clear_bits_if, counts_for_ageing}
use Rattle.status.proofs.MasksLaws.{clear_if_is, contains_is}
use Rattle.status.proofs.CountsLaws.{counted}
use Rattle.status.proofs.RecordsLaws.{bytes_are}
use Rattle.status.proofs.stop_b.Goals as goal

pub returns : goal.returns
returns c =
    let r = c.args.r in
    let s = status_of r.status.0 in
    let confirmed-is = contains_is r.status.0 confirmed_dtc c.contains.ensures in
    let (g-is, ages-is) =
    counted (counts_for_ageing s) (s confirmed_dtc) r.g c.args.age
    c.counts_for_ageing.ensures confirmed-is c.requires
    c.rises_if-g.ensures in
    let bits =
    clear_if_is (confirmed_dtc ∷ warning_indicator_requested ∷ []) r.status.0 _
    c.clear_if.ensures refl in
    λ C H i. (
      bytes_are (search rules)
          (bits ∙ (λ j. clear_bits_if (ages-is j) (confirmed_dtc ∷ warning_indicator_requested ∷ []) s))
          refl
          (c.zero_if.ensures ∙ (λ j. cond (ages-is j) 0 r.h))
          (c.zero_if-2.ensures ∙ (λ j. cond (ages-is j) 0 (g-is j))),
      ages-is,
    )
