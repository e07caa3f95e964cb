-- `passes` meets its contract: the record is read, stepped and written back.
use Rattle.history.specs.History.{passed}
use Rattle.manual.specs.Configuration.{limits_of}
use Rattle.one_event.proofs.LentLaws.{happens_is}
use Rattle.one_event.proofs.passes.Goals as goal

pub returns : goal.returns
returns c =
    let a = c.args in
    let read-record = c.read_record-before in
    let after = c.passed in
    λ cfg. happens_is cfg a.event.0 a.records.now passed read-record.result after.result
    read-record.ensures
    (after.ensures (limits_of cfg a.event.0)) c.write_record.ensures
