use mathlib.Core.Path.{sym, ap, ◌∙◌}
use Rattle.manual.specs.State.{lent}
use Rattle.config.specs.Search.{search_is}
use Rattle.diagnostics.specs.Showing.{remembering}
use Rattle.diagnostics.proofs.ShowLaws.{asked_below, shows_13, shows_31, shows_event}
use Rattle.diagnostics.proofs.show.Goals as goal

pub returns-then-request-ne-SHOW_LENGTH : goal.returns-then-request-ne-SHOW_LENGTH
returns-then-request-ne-SHOW_LENGTH c b =
    let a = c.args in
    shows_13 _ a.room.now _ a.request.now a.told c.if-request-ne-SHOW_LENGTH.true
    (c.negative.ensures _ _)

pub show_event-requires : goal.show_event-requires
show_event-requires c =
    let a = c.args in
    let read = remembering a.state.now.records.now a.state.now.memory.now in (
      c.requires,
      asked_below _ a.request.now read _
          (ap search_is (sym c.in-Some.is) ∙ c.event_asked.ensures read),
    )

pub returns-in-Some : goal.returns-in-Some
returns-in-Some c b =
    let a = c.args in
    let s = lent a.state.now.records.now a.state.now.debounce.now a.state.now.memory.now b in
    shows_event _ a.room.now s a.request.now a.told c.if-request-ne-SHOW_LENGTH.false _
    (ap search_is (sym c.in-Some.is) ∙ c.event_asked.ensures s)
    (c.show_event.ensures b)

pub returns-in-None : goal.returns-in-None
returns-in-None c b =
    let a = c.args in
    let s = lent a.state.now.records.now a.state.now.debounce.now a.state.now.memory.now b in
    shows_31 _ a.room.now s a.request.now a.told c.if-request-ne-SHOW_LENGTH.false
    (ap search_is (sym c.in-None.is) ∙ c.event_asked.ensures s)
    (c.negative-in-None.ensures _ _)
