use mathlib.Core.Path.{◌∙◌, ap}
use mir.Facts.{to_z-of_z}
use mir.Syntax.{w64}
use Rattle.history.specs.StatusByte.{status_of}
use Rattle.manual.specs.Counter.{counter_in}
use Rattle.config.proofs.SignedInCode.{back}
use Rattle.counter.proofs.CounterInCode.{internal_is, debounced_is}
use Rattle.counter.proofs.counter_of.Goals as goal

pub returns-then-kind_of-eq-INTERNAL : goal.returns-then-kind_of-eq-INTERNAL
unfolding counter_in
returns-then-kind_of-eq-INTERNAL c = λ m b.
    let a = c.args in
    to_z-of_z {w = w64} (record { sfits = c.internal.type_inv })
    ∙ internal_is a.cfg.now a.event.0 _ c.kind_of.ensures
    c.if-kind_of-eq-INTERNAL.true c.internal.ensures (ap status_of c.status_of.ensures)

pub returns : goal.returns
unfolding counter_in
returns c = λ m b.
    let a = c.args in
    let number = c.number_of in
    to_z-of_z {w = w64} (record { sfits = c.debounced.type_inv })
    ∙ debounced_is a.cfg.now a.event.0 _ c.kind_of.ensures
    c.if-kind_of-eq-INTERNAL.false c.debounced.ensures (back number.result number.type_inv ∙ number.ensures)
