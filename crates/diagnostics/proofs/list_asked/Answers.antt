use mathlib.Core.Path.{sym, ◌∙◌}
use Prim.Native.Nat.{◌+◌, ◌*◌, ◌≤◌}
use native.Mathlib.Omega.{arith}
use lib.ListN.{length}
use borrow.Author.Tests.{ltb-false}
use Rattle.writing.proofs.WritingLaws.{append_then, append_next}
use Rattle.manual.specs.Words.{count_below}
use Rattle.manual.specs.Configuration.{events}
use Rattle.manual.specs.State.{lent}
use Rattle.diagnostics.specs.Replies.{holding, asks}
use Rattle.diagnostics.proofs.RepliesLaws.{written_is_sent, nothing_is_sent, by_turn}
use Rattle.diagnostics.proofs.RepliesLaws.{lines_length, lines_in_lem, list_length, list_tests}
use Rattle.diagnostics.proofs.list_asked.Goals as goal

pub is_too_long-too_long-requires : goal.is_too_long-too_long-requires
is_too_long-too_long-requires c = (
  c.requires.accepted.config,
  c.requires.head_most,
)

pub write-at-requires : goal.write-at-requires
write-at-requires c =
    let a = c.args in
    let n = count_below (events a.cfg.now) (asks a.cfg.now a.asked (holding a.state.now.records.now
    a.state.now.debounce.now)) in
    let room : length a.head.now + 4 * n ≤ length a.room.now =
    ltb-false _ _ (sym c.is_too_long-too_long.ensures
    ∙ c.turn_of.ensures.fits c.in-Write.is) in
    omega arith

pub write_lines-requires : goal.write_lines-requires
write_lines-requires c =
    let a = c.args in
    let n = count_below (events a.cfg.now) (asks a.cfg.now a.asked (holding a.state.now.records.now
    a.state.now.debounce.now)) in
    let room : length a.head.now + 4 * n ≤ length a.room.now =
    ltb-false _ _ (sym c.is_too_long-too_long.ensures ∙ c.turn_of.ensures.fits c.in-Write.is) in
    record {
      config = c.requires.accepted.config;
      within = omega (
        arith,
        lines_length a.cfg.now a.asked (holding a.state.now.records.now
            a.state.now.debounce.now),
        append_next _ _ c.write-at.ensures,
        c.write-at.auto.room,
      );
    }

pub returns-in-Negative : goal.returns-in-Negative
returns-in-Negative c =
    λ b. let a = c.args in
    by_turn _ a.room.now _ _ a.request.now _ c.turn_of.ensures c.in-Negative.is
    (list_tests _ _ _ _ (c.suppresses.ensures a.cfg.now) a.head.now _ a.asked
    c.is_too_long-too_long.ensures)
    (c.negative.ensures _ _)

pub returns-in-Suppressed : goal.returns-in-Suppressed
returns-in-Suppressed c =
    λ b. let a = c.args in
    by_turn _ a.room.now _ _ a.request.now _ c.turn_of.ensures c.in-Suppressed.is
    (list_tests _ _ _ _ (c.suppresses.ensures a.cfg.now) a.head.now _ a.asked
    c.is_too_long-too_long.ensures)
    (nothing_is_sent _ _ _)

pub returns-in-Write : goal.returns-in-Write
returns-in-Write c =
    λ b. let a = c.args in
    let s = lent a.state.now.records.now a.state.now.debounce.now a.state.now.memory.now b in
    let long = list_length a.cfg.now s a.head.now a.asked in
    let told = c.in-Write.is in
    by_turn _ a.room.now s _ a.request.now _ c.turn_of.ensures told
    (list_tests _ s _ _ (c.suppresses.ensures a.cfg.now) a.head.now _ a.asked
    c.is_too_long-too_long.ensures)
    (written_is_sent _ _ _ s (rw long (ltb-false _ _ (sym c.is_too_long-too_long.ensures
    ∙ c.turn_of.ensures.fits told)))
    (rw (lines_in_lem _ s a.asked)
    (append_then _ _ _ c.write-at.ensures
    c.write_lines.ensures)))
