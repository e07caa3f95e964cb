use Rattle.manual.specs.Lent.{as_lent}
use Rattle.replay_step.proofs.BeginningLaws.{length_of_front}
use Rattle.replay_step.proofs.TurnLaws.{line_within}
use Rattle.replay.proofs.turn.Goals as goal

pub slice_bounds-say-end : goal.slice_bounds-say-end
slice_bounds-say-end c =
    let a = c.args in
    line_within a.cfg.now a.buffer.now (as_lent a.state.now) a.played.next.at a.text.now
    (rw c.in-Line.is at c.step.ensures.promise)

pub slice_bounds-say-end-in-Line : goal.slice_bounds-say-end-in-Line
slice_bounds-say-end-in-Line c =
    let a = c.args in
    length_of_front _ _
    (line_within a.cfg.now a.buffer.now (as_lent a.state.now) a.played.next.at a.text.now
    (rw c.in-Line.is at c.step.ensures.promise))
