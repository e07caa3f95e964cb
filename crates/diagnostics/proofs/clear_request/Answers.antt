use mathlib.Core.Path.{sym, ◌∙◌}
use Rattle.diagnostics.proofs.RequestLaws.{clear_wrong_length, clear_unknown, clear_known}
use Rattle.diagnostics.proofs.RequestLaws.{no_clear_of_length, no_clear_of_code, clear_of_code}
use Rattle.diagnostics.proofs.clear_request.Goals as goal

pub returns-then-request-ne4 : goal.returns-then-request-ne4
returns-then-request-ne4 c =
    let a = c.args in (
      λ s. clear_wrong_length _ _ s c.if-request-ne4.true,
      no_clear_of_length a.cfg.now a.request.now c.if-request-ne4.true,
    )

pub returns-then-is_unknown : goal.returns-then-is_unknown
returns-then-is_unknown c =
    let a = c.args in
    let if1 = c.if-request-ne4 in
    let code_in = c.code_in-code in
    let unknown = sym c.is_unknown.ensures ∙ c.if-is_unknown.true in (
      λ s. clear_unknown _ _ s if1.false code_in.ensures unknown,
      no_clear_of_code a.cfg.now a.request.now if1.false code_in.ensures unknown,
    )

pub returns : goal.returns
returns c =
    let a = c.args in
    let if1 = c.if-request-ne4 in
    let code_in = c.code_in-code in
    let known = sym c.is_unknown.ensures ∙ c.if-is_unknown.false in (
      λ s. clear_known _ _ s if1.false code_in.ensures known,
      clear_of_code a.cfg.now a.request.now if1.false code_in.ensures known,
    )
