use Rattle.manual.specs.State.{Stored, opened, stored_at}
use mathlib.Core.Path.{◌≡◌, sym, ap, ◌∙◌}
use mathlib.Core.Bool.{Bool, true, false}
use Rattle.history.specs.Words.{implies}
use Rattle.manual.specs.Configuration.{limits_of}
use Rattle.status.specs.Clauses.{is_limited, limits_ok, limits_kept}
use Rattle.judgement.proofs.limits_kept.Goals as goal

pub returns-then-not-is_limited : goal.returns-then-not-is_limited
unfolding limits_kept
returns-then-not-is_limited c =
    let a = c.args in
    let no : is_limited (opened (stored_at a.event.0 a.records.now)) ≡ false =
    sym (c.is_limited.ensures ∙ ap (λ (x : Stored). is_limited (opened x))
    c.read_record-record.ensures) ∙ c.if-not-is_limited.true in
    sym (ap (λ (b : Bool). implies b (limits_ok (limits_of a.cfg.now a.event.0) (opened (stored_at
    a.event.0 a.records.now)))) no)

pub returns : goal.returns
unfolding limits_kept
returns c =
    let a = c.args in
    let yes : is_limited (opened (stored_at a.event.0 a.records.now)) ≡ true =
    sym (c.is_limited.ensures ∙ ap (λ (x : Stored). is_limited (opened x))
    c.read_record-record.ensures) ∙ c.if-not-is_limited.false in
    c.limits_ok.ensures c.limits_within-limits.result.confirm
    ∙ (λ i. limits_ok (c.limits_within-limits.ensures i) (opened
    (c.read_record-record.ensures i)))
    ∙ sym (ap (λ (b : Bool). implies b (limits_ok (limits_of a.cfg.now a.event.0) (opened (stored_at
    a.event.0 a.records.now)))) yes)
