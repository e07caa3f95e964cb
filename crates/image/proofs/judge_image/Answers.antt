-- `judge_image` meets its contract: byte 1 tells the edition.
use mathlib.Core.Path.{refl, sym, ◌∙◌}
use Rattle.std.proofs.lemmas.Result.{err_from_is_err_and}
use Rattle.image.proofs.JudgementLaws.{told_number, told_none, judged_with, refused_other, refused_short}
use Rattle.image.proofs.judge_image.Goals as goal

pub returns-then-image-le-EDITION_AT : goal.returns-then-image-le-EDITION_AT
returns-then-image-le-EDITION_AT c = (refused_short _ c.args.image.now c.if-image-le-EDITION_AT.true, refl)

pub returns-in_err-edition : goal.returns-in_err-edition
returns-in_err-edition c =
    let p = err_from_is_err_and c.from_residual.result c.from_residual.ensures.1 in
    let none = told_none _ _ c.in_err-edition.ensures in
    rw (p.1, p.2) (refused_other _ c.args.image.now none.0.0 none.0.1, none.1)

pub returns-then-image_in : goal.returns-then-image_in
returns-then-image_in c =
    let number = told_number _ _ c.in_ok-edition.ensures in
    (sym (judged_with _ c.args.image.now _ number c.image_in.ensures) ∙ c.if-image_in.true, number)

pub returns : goal.returns
returns c =
    let number = told_number _ _ c.in_ok-edition.ensures in
    (sym (judged_with _ c.args.image.now _ number c.image_in.ensures) ∙ c.if-image_in.false, refl)
