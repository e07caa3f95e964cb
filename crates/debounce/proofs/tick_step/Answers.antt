use mir.Facts.{to_z-of_z}
use Rattle.manual.specs.Debouncing.{ticked}
use Rattle.debounce.proofs.SmallNumbersLaws.{held}
use Rattle.debounce.proofs.tick_step.Goals as goal

pub returns-then-d-top : goal.returns-then-d-top
unfolding ticked
returns-then-d-top c =
    let d = to_z-of_z c.ranges.d in
    let top = held c.top.ensures c.top.type_inv in
    simp (
      simp (d, top) at c.if-d-top.true,
      c.leaves_at.ensures,
      held c.tick_up.ensures c.tick_up.type_inv,
      d,
    )

pub returns-then-bottom-d : goal.returns-then-bottom-d
unfolding ticked
returns-then-bottom-d c =
    let d = to_z-of_z c.ranges.d in
    let top =
    held c.top.ensures
    c.top.type_inv in
    let bottom = held c.bottom.ensures c.bottom.type_inv in
    simp (
      simp (d, top) at c.if-d-top.false,
      simp (d, bottom) at c.if-bottom-d.true,
      c.leaves_at-then-bottom-d.ensures,
      held c.tick_down.ensures c.tick_down.type_inv,
      d,
    )

pub returns : goal.returns
unfolding ticked
returns c =
    let d = to_z-of_z c.ranges.d in
    let top = held c.top.ensures c.top.type_inv in
    let bottom = held c.bottom.ensures c.bottom.type_inv in
    simp (simp (d, top) at c.if-d-top.false, simp (d, bottom) at c.if-bottom-d.false, d)
