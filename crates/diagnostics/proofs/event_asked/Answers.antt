use mathlib.Core.Path.{sym, ◌∙◌}
use Rattle.diagnostics.proofs.ShowLaws.{asked_by_code, asked_for_nothing}
use Rattle.diagnostics.proofs.event_asked.Goals as goal

pub returns-then-is_record : goal.returns-then-is_record
returns-then-is_record c s =
    let a = c.args in
    asked_by_code a.cfg.now a.request.now s c.byte_of.ensures
    (sym (c.is_record.ensures a.cfg.now) ∙ c.if-is_record.true) c.code_in.ensures
    c.find_code.ensures

pub returns : goal.returns
returns c s =
    let a = c.args in
    asked_for_nothing a.cfg.now a.request.now s c.byte_of.ensures
    (sym (c.is_record.ensures a.cfg.now) ∙ c.if-is_record.false)
