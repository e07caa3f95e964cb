-- `applies` meets its contract: no part of the verdict goes by the debounce numbers.
use mathlib.Core.Path.{refl, ap, ◌∙◌}
use lib.IntN.{ℤ}
use lib.ListN.{set}
use Rattle.debounce.proofs.SmallNumbersLaws.{held}
use Rattle.debounce.specs.Rows.{answered}
use Rattle.one_event.proofs.LentLaws.{applied_is}
use Rattle.one_event.proofs.applies.Goals as goal

pub returns-clause-promise : goal.returns-clause-promise
returns-clause-promise c =
    let a = c.args in
    let s = a.state.now in
    applied_is a.cfg.now a.event.0 a.frame.now s.records.now s.memory.now s.board
    s.debounce.now (answered a.d)
    (c.write_number.ensures
    ∙ ap (λ (z : ℤ). set s.debounce.now a.event.0 z) (held refl c.struct_told-1.given.0.1))
    c.qualifies.ensures.promise
