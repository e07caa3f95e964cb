use mathlib.Core.Path.{sym, ap, ◌∙◌}
use Rattle.std.proofs.lemmas.Result.{err_from_is_err_and}
use Rattle.manual.specs.State.{State}
use Rattle.manual.specs.Lent.{as_lent}
use Rattle.manual.specs.Answers.{lent_counts, first_that_applies}
use Rattle.manual.specs.Calls.{clear_code, clear_rules}
use Rattle.manual.proofs.AnswersLaws.{goes_through, stops_with}
use Rattle.clearing.proofs.ClearRiseLaws.{may_clear, may_raise, leaves_done}
use Rattle.clearing.proofs.clear.Goals as goal

pub clear_covered-rise-requires : goal.clear_covered-rise-requires
clear_covered-rise-requires c =
    let a = c.args in
    may_clear a.cfg.now (as_lent a.state.now) a.code a.counts.now
    (sym (c.in_ok-judge.ensures
    ∙ ap (λ (s : State). first_that_applies (clear_rules a.cfg.now a.code (lent_counts a.counts.now) s)) c.as_found.ensures))

pub raise-requires : goal.raise-requires
raise-requires c =
    let a = c.args in
    may_raise a.cfg.now (as_lent a.state.now) a.code a.counts.now
    (sym (c.in_ok-judge.ensures
    ∙ ap (λ (s : State). first_that_applies (clear_rules a.cfg.now a.code (lent_counts a.counts.now) s)) c.as_found.ensures))
    c.clear_covered-rise.ensures.rise

pub returns-clause-promise : goal.returns-clause-promise
unfolding clear_code
returns-clause-promise c =
    let a = c.args in
    let after = c.clear_covered-rise.ensures in
    let passed =
    sym (c.in_ok-judge.ensures
    ∙ ap (λ (s : State). first_that_applies (clear_rules a.cfg.now a.code (lent_counts a.counts.now) s)) c.as_found.ensures) in
    leaves_done a.cfg.now (as_lent a.state.now) a.code a.counts.now passed after.rise after.promise c.raise.ensures
    ∙ sym (goes_through _ _ _ _ passed)

pub returns-in_err-judge-clause-promise : goal.returns-in_err-judge-clause-promise
unfolding clear_code
returns-in_err-judge-clause-promise c =
    let a = c.args in
    let p = err_from_is_err_and c.from_residual.result c.from_residual.ensures.1 in
    rw (p.1, p.2)
    (stops_with _ _ _ _ _
    (c.in_err-judge.ensures
    ∙ ap (λ (s : State). first_that_applies (clear_rules a.cfg.now a.code (lent_counts a.counts.now) s)) c.as_found.ensures))
