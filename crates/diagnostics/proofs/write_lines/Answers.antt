use mathlib.Core.Path.{◌≡◌, refl, sym, ◌∙◌}
use native.Mathlib.Omega.{arith}
use Rattle.manual.specs.Diagnostics.{lines}
use Rattle.manual.proofs.BelowLaws.{join_none, join_more, join_within}
use Rattle.writing.proofs.WritingLaws.{append_none, append_then, append_next}
use Rattle.diagnostics.specs.Replies.{holding, line_if_asked}
use Rattle.diagnostics.proofs.write_lines.Goals as goal

pub events-n-requires : goal.events-n-requires
events-n-requires c = tt

pub loop-event-init : goal.loop-event-init
loop-event-init c = (omega arith, rw join_none (sym (append_none _)), refl)

pub write_line_if_asked-next-requires : goal.write_line_if_asked-next-requires
unfolding lines
write_line_if_asked-next-requires c =
    let fits = c.requires in
    let a = c.args in
    let asked = line_if_asked a.cfg.now a.asked (holding a.state.now.records.now a.state.now.debounce.now) in
    let below = rw c.events-n.ensures at c.loop-event-test.true in
    record {
      config = fits.config;
      event_inside = below;
      within =
          omega (
            arith,
            fits.within,
            join_within asked _ _ below,
            append_next _ _ c.loop-event.invariant.1,
            c.loop-event.invariant.2,
          );
    }

pub loop-event-preserved : goal.loop-event-preserved
loop-event-preserved c = (
  omega arith,
  rw join_more
      (append_then _ _ _ c.loop-event.invariant.1
      c.write_line_if_asked-next.ensures),
  c.write_line_if_asked-next.auto.room
      ∙ c.loop-event.invariant.2,
)

pub shape_of-room : goal.shape_of-room
shape_of-room c = c.loop-event.invariant.2

pub returns : goal.returns
unfolding lines
returns c =
    let e : c.loop-event.event ≡ c.events-n.result = omega arith in
    rw (← c.events-n.ensures, ← e) c.loop-event.invariant.1
