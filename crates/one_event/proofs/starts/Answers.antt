-- `starts` meets its contract: the record is read, stepped and written back.
use Rattle.history.specs.History.{start}
use Rattle.manual.specs.Configuration.{limits_of}
use Rattle.one_event.proofs.LentLaws.{happens_is}
use Rattle.one_event.proofs.starts.Goals as goal

pub returns : goal.returns
returns c =
    let a = c.args in
    let read-record = c.read_record-before in
    let started = c.started in
    λ cfg. happens_is cfg a.event.0 a.records.now start read-record.result started.result
    read-record.ensures
    (started.ensures (limits_of cfg a.event.0)) c.write_record.ensures
