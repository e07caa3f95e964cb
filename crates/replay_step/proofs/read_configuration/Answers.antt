use Rattle.replay_step.proofs.BeginningLaws.{counts, read_judged, unread_begins}
use Rattle.replay_step.specs.Beginning.{numbers_read}
use Rattle.replay_step.proofs.read_configuration.Goals as goal

pub returns-in-Some : goal.returns-in-Some
returns-in-Some c =
    let a = c.args in
    read_judged a.count (numbers_read a.count a.from.at a.text.now) a.cfg.now
    (counts a.text.now a.from.at a.count)
    (rw c.in-Some.is at
    c.read_numbers.ensures)
    c.judged.ensures

pub returns-in-None : goal.returns-in-None
returns-in-None c =
    let a = c.args in
    unread_begins (numbers_read a.count a.from.at a.text.now) a.cfg.now
    (rw c.in-None.is at c.read_numbers.ensures)
