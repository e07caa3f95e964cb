use native.Mathlib.Omega.{arith}
use Rattle.writing.proofs.WritingLaws.{append_next}
use Rattle.diagnostics.proofs.ShowLaws.{shown_least, shown_written}
use Rattle.diagnostics.proofs.write_shown.Goals as goal

pub write-at-requires : goal.write-at-requires
write-at-requires c =
    omega (arith, shown_least c.args.cfg.now c.args.told c.args.own, c.requires.fits)

pub write_line-next-requires : goal.write_line-next-requires
write_line-next-requires c =
    let least = shown_least c.args.cfg.now c.args.told c.args.own in
    record {
      config = c.requires.within.config;
      event_inside = c.requires.event_inside;
      within = omega (arith, least, c.requires.fits, append_next _ _ c.write-at.ensures, c.write-at.auto.room);
    }

pub write_behind_status-requires : goal.write_behind_status-requires
write_behind_status-requires c = (
  record {
    within = c.requires.within;
    event_inside = c.requires.event_inside;
    own_is = c.requires.own_is;
    fits = omega (arith, c.requires.fits, c.write-at.auto.room, c.write_line-next.auto.room);
  },
  omega (arith, append_next _ _ c.write-at.ensures, append_next _ _ c.write_line-next.ensures),
)

pub returns : goal.returns
returns c =
    let a = c.args in
    shown_written a.cfg.now a.told a.event.0 a.state.now.records.now a.state.now.memory.now _ c.number_of.ensures
    c.status_of-status.ensures c.write-at.ensures c.write_line-next.ensures
    c.write_behind_status.ensures
