-- `judge` meets its contract.
use mathlib.Core.Path.{sym, ap, ◌∙◌}
use mathlib.Core.Bool.{true}
use Prim.Native.Nat.{ℕ}
use lib.Dec.{leb}
use Rattle.std.proofs.lemmas.Result.{err_from_is_err_and}
use Rattle.manual.specs.Answers.{first_that_applies}
use Rattle.judgement.proofs.BeginLaws.{after_go, after_stop}
use Rattle.queries.specs.Reading.{four}
use Rattle.queries.proofs.judge.Goals as goal

pub returns-in_err-begin : goal.returns-in_err-begin
returns-in_err-begin c =
    let p = err_from_is_err_and c.from_residual.result c.from_residual.ensures.1 in
    rw (p.1, p.2) (sym (after_stop _ _ true _ _ c.in_err-begin.ensures))

pub returns : goal.returns
returns c =
    let e = c.args.event.0 in
    c.four.ensures
    ∙ ap (λ (n : ℕ). first_that_applies (four (leb n e))) c.events.ensures
    ∙ sym (after_go _ _ true _ (sym c.in_ok-begin.ensures))
