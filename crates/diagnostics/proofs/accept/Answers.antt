use mathlib.Core.Path.{◌≡◌, sym, ap, subst, ◌∙◌}
use lib.ListN.{length, get_or}
use Rattle.manual.specs.State.{State}
use Rattle.manual.specs.Lent.{as_lent}
use Rattle.manual.specs.Answers.{lent_room}
use Rattle.manual.specs.Diagnostics.{replied, served_by}
use Rattle.diagnostics.specs.Replies.{service_is, left_to_clear}
use Rattle.diagnostics.specs.Showing.{Within}
use Rattle.diagnostics.proofs.ShowLaws.{may_read}
use Rattle.diagnostics.proofs.RequestLaws.{counts_stay, may_raise, counts_rise}
use Rattle.diagnostics.proofs.RequestLaws.{with_counts_lem, replied_is, cleared_is}
use Rattle.diagnostics.proofs.accept.Goals as goal

pub serve-service-requires : goal.serve-service-requires
serve-service-requires c =
    let a = c.args in
    let pre = c.requires in
    record {
      accepted = pre.accepted;
      within =
          subst (λ (s : State). Within a.cfg.now s.records s.memory) (sym c.as_found.ensures)
          (may_read _ (as_lent a.state.now) pre.accepted.config pre.formed);
    }

pub raise-requires : goal.raise-requires
raise-requires c =
    let a = c.args in
    let pre = c.requires in
    may_raise a.cfg.now a.request.now a.counts.now (as_lent a.state.now)
    (ap (left_to_clear a.cfg.now) (sym c.in-Clear.is) ∙ c.serve-service.ensures.1) c.clear_covered-rise.ensures.rise
    pre.five pre.not_past

-- what `serve` promises of the state that was read, on the state as it is lent
pub returns-in-Replied-clause-promise : goal.returns-in-Replied-clause-promise
returns-in-Replied-clause-promise c =
    let a = c.args in
    let s = as_lent a.state.now in
    let told = c.in-Replied.is in
    let served =
    subst (λ (s : State). service_is a.cfg.now c.serve-service.result c.serve-service.new.room s
    ≡ replied a.cfg.now (get_or a.request.now 0 0) (lent_room a.room.now)
    (served_by a.cfg.now a.request.now (length a.room.now) s)) c.as_found.ensures (c.serve-service.ensures.0 _) in
    let asks = ap (left_to_clear a.cfg.now) (sym told) ∙ c.serve-service.ensures.1 in
    with_counts_lem a.cfg.now a.request.now a.room.now s a.counts.now
    (counts_stay a.cfg.now a.request.now a.counts.now s asks a.room.now)
    (replied_is _ _ a.room.now _ _ told served)

pub returns-in-Clear-clause-promise : goal.returns-in-Clear-clause-promise
returns-in-Clear-clause-promise c =
    let a = c.args in
    let s = as_lent a.state.now in
    let told = c.in-Clear.is in
    let after = c.clear_covered-rise.ensures in
    let served =
    subst (λ (s : State). service_is a.cfg.now c.serve-service.result c.serve-service.new.room s
    ≡ replied a.cfg.now (get_or a.request.now 0 0) (lent_room a.room.now)
    (served_by a.cfg.now a.request.now (length a.room.now) s)) c.as_found.ensures (c.serve-service.ensures.0 _) in
    let asks = ap (left_to_clear a.cfg.now) (sym told) ∙ c.serve-service.ensures.1 in
    with_counts_lem a.cfg.now a.request.now a.room.now s a.counts.now
    (counts_rise a.cfg.now a.request.now a.counts.now s asks after.rise a.room.now c.raise.ensures)
    (cleared_is _ _ a.room.now _ _ told after.promise served)
