-- `part` meets its contract.
use Rattle.page_rows.proofs.RowsLaws.{event_most, row_put}
use Rattle.page_rows.specs.Rows.{listed, part_of}
use Rattle.page_names.proofs.NamesLaws.{name_few}
use Rattle.manual.specs.State.{lent}
use native.Mathlib.Omega.{arith}
use Rattle.page_rows.proofs.part.Goals as goal

pub overflow_cast-e : goal.overflow_cast-e
overflow_cast-e c =
    record {
      fits = omega (
        arith,
        event_most _ _ _ c.requires.0,
      );
    }

pub put_listed-requires : goal.put_listed-requires
put_listed-requires c = (
  rw c.name_of-name.ensures (name_few _ _),
  omega (
    arith,
    c.requires.2,
  ),
)

pub returns : goal.returns
unfolding part_of
returns c =
    let s = lent c.args.state.now.records.now c.args.state.now.debounce.now c.args.state.now.memory.now c.args.state.now.board in
    row_put c.args.cfg.now c.args.names.now s c.args.event.0 (listed c.args.listing c.args.event.0) c.signal_of-x.ensures c.name_of-name.ensures c.put_listed.ensures
