use Rattle.diagnostics.proofs.ShowLaws.{append_these, place_again, frame_told_lem, frame_fits}
use Rattle.diagnostics.proofs.ShowLaws.{details_told_lem, details_fit}
use Rattle.diagnostics.proofs.write_told.Goals as goal

pub payload_at-payload-requires : goal.payload_at-payload-requires
payload_at-payload-requires c =
    place_again _ c.args.state.now.records.now _ c.args.event.0 _ c.entry_frames.ensures c.requires.place_fits

pub write-requires : goal.write-requires
write-requires c =
    let a = c.args in
    frame_fits a.cfg.now a.state.now.records.now a.state.now.memory.now a.event.0 a.place.0
    c.entry_frames.ensures c.in-Frame.is
    c.payload_at-payload.ensures _ _ c.requires.place_fits c.requires.fits

pub write_details-requires : goal.write_details-requires
write_details-requires c =
    record {
      within = c.requires.within;
      event_inside = c.requires.event_inside;
      place_fits = c.requires.place_fits;
      fits = details_fit c.args.cfg.now c.in-Details.is _ _ c.requires.fits;
    }

pub returns-in-Frame : goal.returns-in-Frame
returns-in-Frame c =
    let a = c.args in
    append_these _ c.write.ensures
    (frame_told_lem a.cfg.now a.state.now.records.now a.state.now.memory.now a.event.0 a.place.0
    c.entry_frames.ensures c.in-Frame.is c.payload_at-payload.ensures)

pub returns-in-Details : goal.returns-in-Details
returns-in-Details c =
    let a = c.args in
    append_these _ c.write_details.ensures
    (details_told_lem a.cfg.now a.state.now.records.now a.state.now.memory.now a.event.0 a.place.0
    c.in-Details.is)
