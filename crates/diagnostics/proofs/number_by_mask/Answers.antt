use mathlib.Core.Path.{refl}
use native.Mathlib.Omega.{arith}
use borrow.Author.Tests.{ltb-false}
use Rattle.diagnostics.proofs.RepliesLaws.{written_is_sent, nothing_is_sent, by_turn, number_most, number_tests}
use Rattle.diagnostics.proofs.number_by_mask.Goals as goal

pub overflow_cast-high : goal.overflow_cast-high
overflow_cast-high c =
    omega (arith, number_most _ c.requires.config _ c.number_asked-number.ensures)

pub write-requires : goal.write-requires
write-requires c =
    ltb-false _ _ (c.turn_of.ensures.fits c.in-Write.is)

pub returns-in-Negative : goal.returns-in-Negative
returns-in-Negative c b =
    let a = c.args in
    by_turn _ a.room.now _ _ _ _ c.turn_of.ensures c.in-Negative.is
    (number_tests _ _ _ _ (c.suppresses.ensures a.cfg.now) refl refl)
    (c.negative.ensures _ _)

pub returns-in-Suppressed : goal.returns-in-Suppressed
returns-in-Suppressed c b =
    let a = c.args in
    by_turn _ a.room.now _ _ _ _ c.turn_of.ensures c.in-Suppressed.is
    (number_tests _ _ _ _ (c.suppresses.ensures a.cfg.now) refl refl)
    (nothing_is_sent _ _ _)

pub returns-in-Write : goal.returns-in-Write
returns-in-Write c b =
    let a = c.args in
    by_turn _ a.room.now _ _ _ _ c.turn_of.ensures
    c.in-Write.is
    (number_tests _ _ _ _ (c.suppresses.ensures a.cfg.now)
    (c.mask_of.ensures a.cfg.now)
    c.number_asked-number.ensures)
    (written_is_sent _ _ _ _
    (ltb-false _ _
    (c.turn_of.ensures.fits c.in-Write.is))
    c.write.ensures)
