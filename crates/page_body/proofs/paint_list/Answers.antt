-- `paint_list` meets its contract.
use Rattle.page_body.specs.Body.{paint_list}
use borrow.Author.Tests.{eq-eqb, ne_eqb}
use Rattle.page_text.proofs.PageLaws.{adds_most}
use native.Mathlib.Omega.{arith}
use Rattle.page_rows.proofs.RowsLaws.{records_for}
use Rattle.page_body.proofs.paint_list.Goals as goal

pub painted-requires : goal.painted-requires
painted-requires c = records_for _ _ c.requires.0

pub returns-then-painted-eq0 : goal.returns-then-painted-eq0
unfolding paint_list
returns-then-painted-eq0 c =
    rw (
      ← c.painted.ensures c.args.state.now.debounce.now c.args.state.now.memory.now,
      eq-eqb _ _ c.if-painted-eq0.true,
    ) (adds_most (omega arith) c.put.ensures)

pub returns-else-painted-eq0 : goal.returns-else-painted-eq0
unfolding paint_list
returns-else-painted-eq0 c =
    rw (
      ← c.painted.ensures c.args.state.now.debounce.now c.args.state.now.memory.now,
      ne_eqb _ _ c.if-painted-eq0.false,
    ) c.list.ensures
