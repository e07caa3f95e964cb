use mathlib.Core.Path.{sym, ◌∙◌}
use Rattle.manual.specs.Lent.{as_found}
use Rattle.rehearsal.proofs.CopiesLaws.{fit_copies}
use Rattle.clearing.proofs.ClearRiseLaws.{far}
use Rattle.clearing.proofs.carries_past.Goals as goal

pub on_copies-rise-requires-clause-room : goal.on_copies-rise-requires-clause-room
on_copies-rise-requires-clause-room c = fit_copies _ _ c.requires.0.0 c.requires.0.1

pub returns : goal.returns
returns c =
    let a = c.args in
    sym (far a.cfg.now (as_found a.state.now) a.code c.requires.0 a.counts.now (sym c.some_near.ensures ∙ c.if-some_near.false))
