use mathlib.Core.Path.{sym, ap, ◌∙◌}
use Rattle.std.proofs.lemmas.Result.{err_from_is_err_and}
use Rattle.manual.specs.State.{State}
use Rattle.manual.specs.Lent.{as_lent}
use Rattle.manual.specs.Answers.{lent_both, first_that_applies}
use Rattle.manual.specs.Diagnostics.{request_reply, request_rules}
use Rattle.manual.proofs.AnswersLaws.{goes_through, stops_with}
use Rattle.diagnostics.proofs.RequestLaws.{may_answer}
use Rattle.diagnostics.proofs.request.Goals as goal

pub accept-requires : goal.accept-requires
accept-requires c =
    let a = c.args in
    may_answer a.cfg.now a.request.now a.room.now a.counts.now (as_lent a.state.now)
    (sym (c.in_ok-judge.ensures
    ∙ ap (λ (s : State). first_that_applies (request_rules a.cfg.now a.request.now (lent_both a.room.now a.counts.now) s))
    c.as_found.ensures))

pub returns-clause-promise : goal.returns-clause-promise
unfolding request_reply
returns-clause-promise c =
    let a = c.args in
    c.accept.ensures.promise
    ∙ sym (goes_through _ _ _ _
    (sym (c.in_ok-judge.ensures
    ∙ ap (λ (s : State). first_that_applies (request_rules a.cfg.now a.request.now (lent_both a.room.now a.counts.now) s))
    c.as_found.ensures)))

pub returns-in_err-judge-clause-promise : goal.returns-in_err-judge-clause-promise
unfolding request_reply
returns-in_err-judge-clause-promise c =
    let a = c.args in
    let p = err_from_is_err_and c.from_residual.result c.from_residual.ensures.1 in
    rw (p.1, p.2)
    (stops_with _ _ _ _ _
    (c.in_err-judge.ensures
    ∙ ap (λ (s : State). first_that_applies (request_rules a.cfg.now a.request.now (lent_both a.room.now a.counts.now) s))
    c.as_found.ensures))
