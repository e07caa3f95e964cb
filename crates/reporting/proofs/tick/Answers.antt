-- `tick` meets its contract: what passed the judge is accepted.
use mathlib.Core.Path.{refl}
use Rattle.std.proofs.lemmas.Result.{err_from_is_err_and}
use Rattle.manual.specs.Calls.{tick}
use Rattle.judgement.proofs.JudgedLaws.{passed_by, accepted_by, refused_by}
use Rattle.reporting.proofs.CountedLaws.{may_raise, raised_by}
use Rattle.reporting.proofs.TickLaws.{tick_passed, tick_counts, tick_left, tick_read}
use Rattle.reporting.proofs.tick.Goals as goal

pub tick_events-rise-requires : goal.tick_events-rise-requires
tick_events-rise-requires c =
    let judged = tick_read _ _ _ _ _ c.as_found.ensures c.judge_tick.ensures in
    tick_passed _ _ _ _ _ _
    (passed_by _ judged c.in_ok-judge_tick.was)

pub raise-requires : goal.raise-requires
raise-requires c =
    let judged = tick_read _ _ _ _ _ c.as_found.ensures c.judge_tick.ensures in
    may_raise _ _ _ c.tick_events-rise.ensures.rise
    (tick_counts _ _ _ _ _ _ (passed_by _ judged c.in_ok-judge_tick.was))

pub returns-clause-promise : goal.returns-clause-promise
unfolding tick
returns-clause-promise c =
    let after = c.tick_events-rise in
    let judged = tick_read _ _ _ _ _ c.as_found.ensures c.judge_tick.ensures in
    accepted_by _ judged _ _ _ c.in_ok-judge_tick.was
    (tick_left _ _ _ _ _ _ after.ensures.promise
    (raised_by _ _ _ after.ensures.rise c.raise.ensures))

pub returns-in_err-judge_tick-clause-promise : goal.returns-in_err-judge_tick-clause-promise
unfolding tick
returns-in_err-judge_tick-clause-promise c =
    let judged = tick_read _ _ _ _ _ c.as_found.ensures c.judge_tick.ensures in
    let p = err_from_is_err_and c.from_residual.result c.from_residual.ensures.1 in
    rw (p.1, p.2)
    (refused_by _ judged _ _ _ _ c.in_err-judge_tick.was refl)
