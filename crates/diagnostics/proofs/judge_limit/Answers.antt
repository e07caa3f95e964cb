use mathlib.Core.Path.{sym, ap, ◌∙◌}
use Rattle.manual.specs.Lent.{as_found}
use Rattle.diagnostics.specs.Replies.{code_of14}
use Rattle.diagnostics.proofs.RequestLaws.{asks_14, asks_none, no_limit, limit_is}
use Rattle.diagnostics.proofs.judge_limit.Goals as goal

pub returns-in-Ok : goal.returns-in-Ok
returns-in-Ok c =
    let a = c.args in
    let s = as_found a.state.now in
    let clear-request = c.clear_request in
    let byte_of = c.byte_of in
    let if1 = c.if-byte_of-eq-SERVICE_14 in
    let told = ap (code_of14 a.cfg.now) (sym c.in-Ok.is) ∙ clear-request.ensures.1 in
    limit_is a.cfg.now a.request.now a.counts.now s
    (asks_14 a.cfg.now a.request.now byte_of.ensures if1.true told) c.carries_past.ensures
    c.limit_test.ensures

pub returns-in-Err : goal.returns-in-Err
returns-in-Err c =
    let a = c.args in
    let s = as_found a.state.now in
    let byte_of = c.byte_of in
    let if1 = c.if-byte_of-eq-SERVICE_14 in
    let told = ap (code_of14 a.cfg.now) (sym c.in-Err.is) ∙
    c.clear_request.ensures.1 in
    no_limit a.cfg.now a.request.now a.counts.now s
    (asks_14 a.cfg.now a.request.now byte_of.ensures if1.true told)

pub returns-else-byte_of-eq-SERVICE_14 : goal.returns-else-byte_of-eq-SERVICE_14
returns-else-byte_of-eq-SERVICE_14 c =
    let a = c.args in
    let s = as_found a.state.now in
    no_limit a.cfg.now a.request.now a.counts.now s
    (asks_none a.cfg.now a.request.now c.byte_of.ensures c.if-byte_of-eq-SERVICE_14.false)
