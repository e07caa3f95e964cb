-- `ticks` meets its contract: the row and D of a well-formed state are small.
use mathlib.Core.Path.{subst}
use Rattle.config.proofs.PartLaws.{row_within}
use Rattle.debounce.specs.Rows.{RowOf, answered}
use Rattle.debounce.proofs.SmallNumbersLaws.{held}
use Rattle.debounce.proofs.RowOfPart.{row_is}
use Rattle.manual.specs.Lent.{as_lent}
use Rattle.one_event.proofs.LentLaws.{may_tick, ticks_is}
use Rattle.one_event.proofs.ticks.Goals as goal

pub part_of-requires : goal.part_of-requires
part_of-requires c =
    let ready = c.requires.0 in
    row_within _ _ ready.event.configured ready.event.blocks.below

pub tick_step-d-requires : goal.tick_step-d-requires
tick_step-d-requires c =
    let a = c.args in
    let number = c.read_number in
    let row : RowOf a.cfg.now a.event.0 c.row_of-row.result =
    row_is a.cfg.now a.event.0
    (subst (λ p. RowOf p 0 c.row_of-row.result) c.part_of.ensures c.row_of-row.ensures) in
    may_tick a.cfg.now a.event.0 (as_lent a.state.now)
    c.requires.0 c.row_of-row.result row (held number.ensures number.type_inv) a.ms c.requires.1.1

pub returns-clause-promise : goal.returns-clause-promise
returns-clause-promise c =
    let a = c.args in
    let number = c.read_number in
    let step = c.tick_step-d in
    let row : RowOf a.cfg.now a.event.0 c.row_of-row.result =
    row_is a.cfg.now a.event.0
    (subst (λ p. RowOf p 0 c.row_of-row.result) c.part_of.ensures c.row_of-row.ensures) in
    ticks_is a.cfg.now a.event.0 (as_lent a.state.now) a.frame.now c.row_of-row.result
    row (held number.ensures number.type_inv) (answered step.result)
    c.moves.ensures.promise a.ms step.ensures
