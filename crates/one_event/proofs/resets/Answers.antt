-- `resets` meets its contract.
use Rattle.one_event.proofs.LentLaws.{resets_is}
use Rattle.one_event.proofs.resets.Goals as goal

pub returns : goal.returns
returns c =
    let a = c.args in
    let fresh-record = c.fresh_record in
    λ cfg. resets_is cfg a.event.0 a.records.now a.debounce.now fresh-record.result
    fresh-record.ensures c.write_record.ensures c.reset_number.ensures
