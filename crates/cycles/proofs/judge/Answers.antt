-- `judge` meets its contract.
use mathlib.Core.Path.{sym, ◌∙◌}
use Rattle.std.proofs.lemmas.Result.{err_from_is_err_and}
use Rattle.judgement.proofs.BeginLaws.{after_go, after_stop}
use Rattle.cycles.proofs.judge.Goals as goal

pub returns : goal.returns
returns c = c.four_five.ensures ∙ sym (after_go _ _ _ _ (sym c.in_ok-begin.ensures))

pub returns-in_err-begin : goal.returns-in_err-begin
returns-in_err-begin c =
    let p = err_from_is_err_and c.from_residual.result c.from_residual.ensures.1 in
    rw (p.1, p.2) (sym (after_stop _ _ _ _ _ c.in_err-begin.ensures))
