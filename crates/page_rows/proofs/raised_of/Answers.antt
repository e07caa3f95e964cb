-- `raised_of` meets its contract.
use mir.Syntax.{w64}
use Rattle.page_rows.proofs.RowsLaws.{event_most, counter_fits}
use Rattle.page_rows.specs.Rows.{raised_counter}
use mir.Facts.{to_z-of_z}
use mir.Val.{to_z, of_z, SFits}
use mir.Syntax.{w8, w64}
use mathlib.Core.Path.{◌≡◌}
use Rattle.page_rows.proofs.raised_of.Goals as goal

pub counter_of-counter-requires : goal.counter_of-counter-requires
counter_of-counter-requires c = event_most _ _ _ c.requires

pub overflow_cast-counter : goal.overflow_cast-counter
overflow_cast-counter c =
    let is = c.counter_of-counter.ensures c.args.state.now.memory.now c.args.state.now.board in
    let fits : SFits w8 c.counter_of-counter.result = rw is (counter_fits _ _ _ c.requires) in
    rw (to_z-of_z {w = w64} (record { sfits = c.counter_of-counter.type_inv })) fits

pub returns : goal.returns
unfolding raised_counter
returns c =
    let wide : to_z w64 (of_z w64 c.counter_of-counter.result) ≡ c.counter_of-counter.result = to_z-of_z {w = w64} (record {
      sfits = c.counter_of-counter.type_inv;
    }) in
    let is = c.counter_of-counter.ensures c.args.state.now.memory.now c.args.state.now.board in
    let fits : SFits w8 c.counter_of-counter.result = rw is (counter_fits _ _ _ c.requires) in
    rw (← is) (rw (wide, to_z-of_z fits) at c.raised.ensures)
