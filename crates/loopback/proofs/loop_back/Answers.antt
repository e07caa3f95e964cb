use mathlib.Core.Path.{refl, ap, ◌∙◌}
use native.Mathlib.Numerals.{add-one}
use native.Mathlib.Omega.{arith}
use lib.ListN.{length}
use Rattle.transport.specs.declared.Line.{Line}
use Rattle.transport.specs.Exchange.{on_line, begun, turns, ended}
use Rattle.transport.proofs.SegmentsLaws.{frames_at_most}
use Rattle.transport.proofs.MessageArrives.{looped_back_lem}
use Rattle.loopback.proofs.loop_back.Goals as goal

pub loop-init : goal.loop-init
unfolding begun turns
loop-init c =
    (omega arith, ap (λ (l : Line). on_line l c.args.room.now) c.begun-line.ensures, refl)

pub loop-preserved : goal.loop-preserved
unfolding turns
loop-preserved c = (
  omega arith,
  rw (add-one, ← c.loop.invariant.1)
      c.turn.ensures,
  c.turn.auto.room ∙ c.loop.invariant.2,
)

pub shape_of-room : goal.shape_of-room
shape_of-room c = c.loop.invariant.2

pub returns : goal.returns
returns c =
    let a = c.args in
    let most = frames_at_most (length a.message.now) in
    ap ended c.loop.invariant.1
    ∙ looped_back_lem (λ n. a.flow.block) (λ n. a.flow.separation) (λ n. 0) a.message.now a.room.now
    c.loop.counter (omega arith)
