-- `fails` meets its contract: memory is told of the records as the failed result left them.
use Rattle.one_event.proofs.LentLaws.{fails_told, fails_untold}
use Rattle.one_event.proofs.fails.Goals as goal

pub returns-then-after-clause-promise : goal.returns-then-after-clause-promise
returns-then-after-clause-promise c =
    let a = c.args in
    let s = a.state.now in
    let limits = c.limits_of-limits in
    let before = c.read_record-before in
    let failed = c.failed-after in
    fails_told a.cfg.now a.event.0 a.frame.now s.records.now s.memory.now s.board
    limits.result before.result failed.result limits.ensures before.ensures failed.ensures
    c.write_record.ensures c.if-after.true s.debounce.now c.tell_memory.ensures.promise

pub returns-else-after-clause-promise : goal.returns-else-after-clause-promise
returns-else-after-clause-promise c =
    let a = c.args in
    let s = a.state.now in
    let limits = c.limits_of-limits in
    let before = c.read_record-before in
    let failed = c.failed-after in
    fails_untold a.cfg.now a.event.0 a.frame.now s.records.now s.memory.now s.board
    limits.result before.result failed.result limits.ensures before.ensures failed.ensures
    c.write_record.ensures c.if-after.false s.debounce.now
