-- `cycles_part` meets its contract.
use native.Mathlib.Omega.{arith}
use Rattle.page_text.specs.Text.{text}
use Rattle.page_text.proofs.PageLaws.{adds_most, ◌and_then◌}
use Rattle.page_body.specs.Body.{table_end, cycles_part}
use Rattle.page_body.proofs.cycles_part.Goals as goal

pub put-requires : goal.put-requires
put-requires c =
    let rows = c.four_cycles.ensures c.args.state.now.debounce.now c.args.state.now.memory.now in
    omega (
      arith,
      rows.puts.within,
      rows.same_length,
      c.cycles_head.ensures.puts.within,
      c.cycles_head.ensures.same_length,
      c.cycles_head_end.ensures.puts.within,
      c.cycles_head_end.ensures.same_length,
      c.requires.2,
    )

pub returns : goal.returns
unfolding cycles_part table_end text
returns c =
    adds_most (omega arith)
    (c.cycles_head.ensures and_then c.cycles_head_end.ensures
    and_then c.four_cycles.ensures c.args.state.now.debounce.now c.args.state.now.memory.now
    and_then c.put.ensures)
