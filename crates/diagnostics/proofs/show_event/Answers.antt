use Prim.Native.Nat.{◌≤◌}
use native.Mathlib.Omega.{arith}
use lib.Dec.{ltb}
use lib.ListN.{length}
use mathlib.Core.Path.{sym, ap}
use borrow.Author.Tests.{ltb-false}
use Rattle.manual.specs.State.{lent}
use Rattle.diagnostics.specs.Showing.{remembering}
use Rattle.diagnostics.proofs.RepliesLaws.{written_is_sent, nothing_is_sent}
use Rattle.diagnostics.proofs.ShowLaws.{shown_in, own_is, size_is, fitted_by_turn}
use Rattle.diagnostics.proofs.show_event.Goals as goal

pub place_of-own-requires : goal.place_of-own-requires
place_of-own-requires c =
    let p = c.requires.0 in
    rw c.entry_frames.ensures p.within.entries_fit

pub write_shown-requires : goal.write_shown-requires
write_shown-requires c =
    let a = c.args in
    let room : c.shown_length.result ≤ length a.room.now =
    ltb-false _ _ (c.turn_of.ensures.fits c.in-Write.is) in
    record {
      within = c.requires.0.within;
      event_inside = c.requires.1;
      own_is =
          own_is a.cfg.now a.told _ (remembering a.state.now.records.now a.state.now.memory.now) c.entry_frames.ensures
          c.place_of-own.ensures;
      fits = omega (arith, c.shown_length.ensures);
    }

pub returns-in-Negative : goal.returns-in-Negative
returns-in-Negative c b =
    let a = c.args in
    let s = lent a.state.now.records.now a.state.now.debounce.now a.state.now.memory.now b in
    fitted_by_turn a.cfg.now a.room.now s a.request.now _ c.turn_of.ensures
    c.in-Negative.is (c.suppresses.ensures a.cfg.now)
    (ap (ltb (length a.room.now))
    (size_is _ a.told _ s c.entry_frames.ensures c.place_of-own.ensures
    c.requires.0.within c.shown_length.ensures))
    (c.negative.ensures _ _)

pub returns-in-Suppressed : goal.returns-in-Suppressed
returns-in-Suppressed c b =
    let a = c.args in
    let s = lent a.state.now.records.now a.state.now.debounce.now a.state.now.memory.now b in
    fitted_by_turn a.cfg.now a.room.now s a.request.now _ c.turn_of.ensures c.in-Suppressed.is
    (c.suppresses.ensures a.cfg.now)
    (ap (ltb (length a.room.now))
    (size_is _ a.told _ s c.entry_frames.ensures c.place_of-own.ensures
    c.requires.0.within c.shown_length.ensures))
    (nothing_is_sent _ _ _)

pub returns-in-Write : goal.returns-in-Write
returns-in-Write c b =
    let a = c.args in
    let s = lent a.state.now.records.now a.state.now.debounce.now a.state.now.memory.now b in
    let told = c.in-Write.is in
    let size =
    size_is _ a.told _ s c.entry_frames.ensures c.place_of-own.ensures
    c.requires.0.within c.shown_length.ensures in
    fitted_by_turn a.cfg.now a.room.now s a.request.now _ c.turn_of.ensures told
    (c.suppresses.ensures a.cfg.now) (ap (ltb (length a.room.now)) size)
    (written_is_sent _ _ _ s (rw (sym size) (ltb-false _ _ (c.turn_of.ensures.fits told)))
    (rw (shown_in _ a.told _ s) c.write_shown.ensures))
