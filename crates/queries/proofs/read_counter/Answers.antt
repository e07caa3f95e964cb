-- `read_counter` meets its contract.
use mir.Syntax.{w64}
use mathlib.Core.Path.{◌≡◌, sym}
use mir.Val.{to_z, of_z}
use mir.Facts.{to_z-of_z}
use Rattle.std.proofs.lemmas.Result.{err_from_is_err_and}
use Rattle.queries.proofs.ReadingLaws.{event_most, counter_small, counter_is, counter_refused, small_fits}
use Rattle.queries.proofs.read_counter.Goals as goal

pub returns-in_err-judge : goal.returns-in_err-judge
returns-in_err-judge c =
    let p = err_from_is_err_and c.from_residual.result c.from_residual.ensures.1 in
    rw (p.1, p.2) (counter_refused _ _ _ _ c.in_err-judge.ensures)

pub counter_of-counter-requires : goal.counter_of-counter-requires
counter_of-counter-requires c = event_most _ _ _ (sym c.in_ok-judge.ensures)

pub overflow_cast-result : goal.overflow_cast-result
overflow_cast-result c =
    let s = c.args.state.now in
    let is = c.counter_of-counter.ensures s.memory.now s.board in
    rw (to_z-of_z {w = w64} (record { sfits = c.counter_of-counter.type_inv }))
    (small_fits c.counter_of-counter.result (rw is (counter_small _ _ _ (sym c.in_ok-judge.ensures))))

pub returns : goal.returns
returns c =
    let s = c.args.state.now in
    let z = sym c.in_ok-judge.ensures in
    let is = c.counter_of-counter.ensures s.memory.now s.board in
    let fits = small_fits c.counter_of-counter.result (rw is (counter_small _ _ _ z)) in
    let wide : to_z w64 (of_z w64 c.counter_of-counter.result) ≡ c.counter_of-counter.result =
    to_z-of_z {w = w64} (record { sfits = c.counter_of-counter.type_inv }) in
    rw (wide, to_z-of_z fits) (counter_is _ _ _ z is)
