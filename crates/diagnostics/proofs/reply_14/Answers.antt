use mathlib.Core.Path.{sym, ap, ◌∙◌}
use Rattle.diagnostics.specs.Replies.{clear_request_is, code_of14}
use Rattle.std.specs.Prelude.{ℕ, Result}
use Rattle.diagnostics.proofs.RequestLaws.{replies_54, replies_negative}
use Rattle.diagnostics.proofs.reply_14.Goals as goal

pub returns-in-Ok : goal.returns-in-Ok
returns-in-Ok c =
    let a = c.args in
    let pre = c.requires in
    let told = sym c.in-Ok.is in (
      λ s. replies_54 a.cfg.now a.request.now a.room.now s _ pre.room_least
          c.write.ensures
          (ap (λ (k : Result ℕ ℕ). clear_request_is a.cfg.now k s) told ∙ c.clear_request.ensures.0 s),
      ap (code_of14 a.cfg.now) told ∙ c.clear_request.ensures.1,
    )

pub returns-in-Err : goal.returns-in-Err
returns-in-Err c =
    let a = c.args in
    let clear-request = c.clear_request in
    let told = sym c.in-Err.is in (
      λ s. replies_negative a.cfg.now a.request.now a.room.now s _
          (c.negative.ensures _ s)
          (ap (λ (k : Result ℕ ℕ). clear_request_is a.cfg.now k s) told ∙ clear-request.ensures.0 s),
      ap (code_of14 a.cfg.now) told ∙ clear-request.ensures.1,
    )
