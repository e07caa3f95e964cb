-- `entry_leaves_if` meets its contract.
use Rattle.one_event.proofs.LentLaws.{leaves_where, stays_where}
use Rattle.one_event.proofs.entry_leaves_if.Goals as goal

pub returns-then-test : goal.returns-then-test
returns-then-test c =
    let a = c.args in
    leaves_where a.cfg.now a.event.0 a.memory.now c.if-test.true
    c.forget.ensures

pub returns-else-test : goal.returns-else-test
returns-else-test c =
    let a = c.args in
    stays_where a.cfg.now a.event.0 a.memory.now c.if-test.false
