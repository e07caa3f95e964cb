use Rattle.diagnostics.proofs.ShowLaws.{append_these, place_again, details_are}
use Rattle.diagnostics.proofs.write_details.Goals as goal

pub count_at-count-requires : goal.count_at-count-requires
count_at-count-requires c =
    place_again _ c.args.state.now.records.now _ c.args.event.0 _ c.entry_frames.ensures c.requires.place_fits

pub returns : goal.returns
returns c =
    let a = c.args in
    append_these _ c.write.ensures
    (details_are a.cfg.now a.state.now.records.now a.state.now.memory.now a.event.0 a.place.0
    c.entry_frames.ensures c.read_record-r.result c.count_at-count.ensures c.read_record-r.ensures)
