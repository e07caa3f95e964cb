-- `clears` meets its contract.
use Rattle.one_event.proofs.LentLaws.{clears_is}
use Rattle.one_event.proofs.clears.Goals as goal

pub returns-clause-promise : goal.returns-clause-promise
returns-clause-promise c =
    let a = c.args in
    let s = a.state.now in
    clears_is a.cfg.now a.event.0 s.records.now s.debounce.now s.memory.now
    (c.resets.ensures a.cfg.now) c.forget.ensures s.board
