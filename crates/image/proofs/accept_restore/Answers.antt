-- `accept_restore` meets its contract: an accepted image has the right length, so each part that is read lies in it.
use native.Mathlib.Omega.{arith}
use Rattle.image.proofs.RestoreLaws.{end_least, fillable, restored_is}
use Rattle.image.proofs.accept_restore.Goals as goal

pub slice_bounds-write-end-2 : goal.slice_bounds-write-end-2
slice_bounds-write-end-2 c = omega (arith, end_least _ _ _ _ _ c.requires.0 c.memory_at-start.ensures)

pub slice_bounds-fill_memory-count : goal.slice_bounds-fill_memory-count
slice_bounds-fill_memory-count c = omega (arith, end_least _ _ _ _ _ c.requires.0 c.memory_at-start.ensures)

pub slice_bounds-fill_memory-start : goal.slice_bounds-fill_memory-start
slice_bounds-fill_memory-start c = omega (arith, end_least _ _ _ _ _ c.requires.0 c.memory_at-start.ensures)

pub fill_memory-requires : goal.fill_memory-requires
fill_memory-requires c =
    fillable _ _ _ _ _ c.requires.0 c.memory_at-start.ensures c.frame_bytes-one.ensures c.requires.1

pub returns-clause-promise : goal.returns-clause-promise
returns-clause-promise c =
    let a = c.args in
    restored_is _ a.state.now.records.now a.state.now.debounce.now a.state.now.memory.now a.image.now c.requires.0
    c.memory_at-start.ensures c.frame_bytes-one.ensures c.requires.1 c.write.ensures
    c.reset_numbers.ensures c.fill_memory.ensures
    c.stopped_board-state.ensures
