-- `moves` meets its contract: without a verdict only D is written.
use mathlib.Core.Path.{refl, ap, ◌∙◌}
use lib.IntN.{ℤ}
use lib.ListN.{set}
use Rattle.manual.specs.declared.Verdict.TheVariants.{None}
use Rattle.debounce.specs.Rows.{answered}
use Rattle.debounce.proofs.SmallNumbersLaws.{held}
use Rattle.one_event.proofs.LentLaws.{qualifies_by, applied_is}
use Rattle.one_event.proofs.moves.Goals as goal

pub returns-in-None-clause-promise : goal.returns-in-None-clause-promise
returns-in-None-clause-promise c =
    let a = c.args in
    let s = a.state.now in
    applied_is a.cfg.now a.event.0 a.frame.now s.records.now s.memory.now s.board
    s.debounce.now (answered a.d)
    (c.write_number.ensures
    ∙ ap (λ (z : ℤ). set s.debounce.now a.event.0 z) (held refl c.struct_told-1.given.0.1))
    (qualifies_by a.cfg.now a.event.0 a.frame.now _ None c.in-None.is refl)
