use mathlib.Core.Path.{◌≡◌, refl, sym, ap, ◌∙◌}
use mathlib.Core.List.{List}
use Prim.Native.Nat.{ℕ}
use native.Mathlib.Omega.{arith}
use Rattle.manual.specs.Words.{join_below}
use Rattle.manual.proofs.BelowLaws.{join_none, join_more, join_within}
use Rattle.manual.proofs.UntestedLaws.{grey_joined}
use Rattle.writing.specs.Writing.{written, append}
use Rattle.writing.proofs.WritingLaws.{append_none, append_then, append_next, append_filled}
use Rattle.untested.specs.Page.{holding, if_grey}
use Rattle.untested.proofs.write_grey.Goals as goal

pub events-n-requires : goal.events-n-requires
events-n-requires c = tt

pub loop-event-init : goal.loop-event-init
loop-event-init c = (omega arith, rw join_none (sym (append_none _)), refl)

pub write_if_grey-next-requires : goal.write_if_grey-next-requires
write_if_grey-next-requires c =
    let fits = c.requires in
    let a = c.args in
    let grey = holding a.records.now a.board in
    let below = rw c.events-n.ensures at c.loop-event-test.true in
    record {
      judged = fits.judged;
      event_inside = below;
      within =
          omega (
            arith,
            rw (grey_joined a.cfg.now grey) at fits.within,
            join_within (if_grey a.cfg.now grey) _ _ below,
            append_next _ _ c.loop-event.invariant.1,
            c.loop-event.invariant.2,
          );
    }

pub loop-event-preserved : goal.loop-event-preserved
loop-event-preserved c = (
  omega arith,
  rw join_more
      (append_then _ _ _ c.loop-event.invariant.1
      c.write_if_grey-next.ensures),
  c.write_if_grey-next.auto.list
      ∙ c.loop-event.invariant.2,
)

pub shape_of-list : goal.shape_of-list
shape_of-list c = c.loop-event.invariant.2

pub returns : goal.returns
returns c =
    let a = c.args in
    let grey = holding a.records.now a.board in
    let e : c.loop-event.event ≡ c.events-n.result = omega arith in
    let from = written 0 a.list.now in
    c.loop-event.invariant.1
    ∙ ap (λ (k : ℕ). append (join_below k (if_grey a.cfg.now grey)) from) (e ∙ c.events-n.ensures)
    ∙ ap (λ (l : List ℕ). append l from) (sym (grey_joined a.cfg.now grey))
    ∙ append_filled _ _ c.requires.within
