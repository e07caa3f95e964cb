-- `tell_memory` meets its contract.
use Rattle.one_event.proofs.LentLaws.{told_is}
use Rattle.one_event.proofs.tell_memory.Goals as goal

pub returns-clause-promise : goal.returns-clause-promise
returns-clause-promise c =
    let a = c.args in
    let s = a.state.now in
    let store = c.store-did in
    told_is a.cfg.now a.event.0 a.frame.now s.records.now s.memory.now s.board
    store.result store.ensures
    c.is_lost.ensures s.debounce.now
