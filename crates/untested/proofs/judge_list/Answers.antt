-- `judge_list` meets its contract.
use mathlib.Core.Bool.{Bool, true}
use mathlib.Core.List.{List, [], ◌∷◌}
use mathlib.Core.Path.{sym, ap, ◌∙◌}
use Prim.Native.Nat.{ℕ}
use lib.Dec.{ltb}
use lib.ListN.{length}
use Rattle.std.proofs.lemmas.Result.{err_from_is_err_and}
use Rattle.manual.specs.Lent.{as_found}
use Rattle.manual.specs.Answers.{◌if◌, first_that_applies}
use Rattle.manual.specs.Untested.{list_grey_rules}
use Rattle.judgement.proofs.BeginLaws.{begun, after_go, after_stop}
use Rattle.untested.proofs.PageLaws.{list_in, judged_records}
use Rattle.untested.proofs.judge_list.Goals as goal

pub returns-in_err-begin : goal.returns-in_err-begin
unfolding list_grey_rules
returns-in_err-begin c =
    let p = err_from_is_err_and c.from_residual.result c.from_residual.ensures.1 in
    rw (p.1, p.2) (sym (after_stop _ _ true _ _ c.in_err-begin.ensures))

pub is_too_short-requires : goal.is_too_short-requires
is_too_short-requires c =
    let (ok, formed) = begun _ _ true (sym c.in_ok-begin.ensures) in judged_records _ _ ok formed

pub returns : goal.returns
unfolding list_grey_rules
returns c =
    let a = c.args in
    c.seven.ensures
    ∙ ap (λ (short : Bool). first_that_applies ((7 if short) ∷ []))
    (c.is_too_short.ensures
    ∙ ap (λ (l : List ℕ). ltb (length a.list.now) (length l)) (sym (list_in a.cfg.now (as_found a.state.now))))
    ∙ sym (after_go _ _ true _ (sym c.in_ok-begin.ensures))
