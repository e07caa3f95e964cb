use native.Mathlib.Omega.{arith}
use Rattle.writing.proofs.WritingLaws.{append_next}
use Rattle.diagnostics.proofs.ShowLaws.{place_fits, behind_entry, behind_none, entry_fits}
use Rattle.diagnostics.proofs.write_behind_status.Goals as goal

pub write-next-requires : goal.write-next-requires
write-next-requires c =
    let room =
    entry_fits c.args.cfg.now c.args.told _ c.in-Some.is _ c.requires.0.fits in
    omega (arith, room, c.requires.1)

pub write_told-requires : goal.write_told-requires
write_told-requires c =
    let room = entry_fits c.args.cfg.now c.args.told _ c.in-Some.is _ c.requires.0.fits in
    record {
      within = c.requires.0.within;
      event_inside = c.requires.0.event_inside;
      place_fits =
          place_fits _ c.args.state.now.records.now _ c.args.event.0 c.requires.0.own_is c.requires.0.within _
          c.in-Some.is;
      fits = omega (arith, room, c.requires.1, append_next _ _ c.write-next.ensures, c.write-next.auto.room);
    }

pub returns-in-Some : goal.returns-in-Some
returns-in-Some c =
    let a = c.args in
    behind_entry a.cfg.now a.state.now.records.now a.state.now.memory.now a.event.0 c.requires.0.own_is _ _ _
    c.in-Some.is c.write-next.ensures c.write_told.ensures

pub returns-in-None : goal.returns-in-None
returns-in-None c =
    let a = c.args in
    behind_none a.cfg.now a.state.now.records.now a.state.now.memory.now a.event.0 c.requires.0.own_is _ _
    c.in-None.is
