-- `frame_of` meets its contract: an entry that was found stands among the 64.
use mathlib.Core.Path.{sym, ◌∙◌}
use Rattle.queries.proofs.ReadingLaws.{found_most}
use Rattle.queries.proofs.frame_of.Goals as goal

pub chosen_part-requires : goal.chosen_part-requires
chosen_part-requires c =
    let a = c.args in
    found_most a.cfg.now a.event.0 a.which a.memory.now
    c.entry_frames-payload_bytes.ensures c.frame_bytes-frame_bytes.ensures c.requires
    c.in_ok-place.place (sym c.place_of.ensures ∙ c.in_ok-place.ensures.ok_part)
