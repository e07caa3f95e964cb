-- `four_cycles` meets its contract.
use mathlib.Core.Path.{ap, ◌∙◌}
use native.Mathlib.Omega.{arith}
use lib.ListN.{take, drop}
use Rattle.manual.specs.State.{lent}
use Rattle.page_text.proofs.PageLaws.{adds_most, ◌and_then◌}
use Rattle.page_body.proofs.BodyLaws.{row_0, row_1, row_2, row_3, cycle_put, take_few}
use Rattle.page_body.specs.Body.{four_cycles}
use Rattle.page_body.proofs.four_cycles.Goals as goal

pub cycle_row-requires-4 : goal.cycle_row-requires-4
cycle_row-requires-4 c = (
  take_few 8 (drop 24 c.table_of-counts.result),
  omega (
    arith,
    c.cycle_row.ensures.puts.within,
    c.cycle_row.ensures.same_length,
    c.cycle_row-2.ensures.puts.within,
    c.cycle_row-2.ensures.same_length,
    c.cycle_row-3.ensures.puts.within,
    c.cycle_row-3.ensures.same_length,
    c.requires.1,
  ),
)

pub returns : goal.returns
unfolding four_cycles
returns c = λ d m.
    let cfg = c.args.cfg.now in
    let s = lent c.args.records.now d m c.args.board in
    let is = c.table_of-counts.ensures d m c.args.board in
    adds_most (omega arith)
    (cycle_put cfg s 0 c.runs.ensures (ap (λ l. take 8 (drop 0 l)) is ∙ row_0 cfg s) c.cycle_row.ensures
    and_then cycle_put cfg s 1 c.runs-2.ensures (ap (λ l. take 8 (drop 8 l)) is ∙ row_1 cfg s) c.cycle_row-2.ensures
    and_then cycle_put cfg s 2 c.runs-3.ensures (ap (λ l. take 8 (drop 16 l)) is ∙ row_2 cfg s) c.cycle_row-3.ensures
    and_then cycle_put cfg s 3 c.runs-4.ensures (ap (λ l. take 8 (drop 24 l)) is ∙ row_3 cfg s) c.cycle_row-4.ensures)
