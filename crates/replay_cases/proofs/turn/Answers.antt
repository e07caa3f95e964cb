use Rattle.manual.specs.Lent.{as_lent}
use Rattle.replay_step.proofs.BeginningLaws.{length_of_front}
use Rattle.replay_step.proofs.TurnLaws.{line_within}
use Rattle.replay_cases.proofs.turn.Goals as goal

pub slice_bounds-print-end : goal.slice_bounds-print-end
slice_bounds-print-end c =
    let a = c.args in
    line_within a.cfg.now a.buffer.now (as_lent a.state.now) a.played.next.at a.text.now
    (rw c.in-Line.is at c.step.ensures.promise)

pub slice_bounds-print-end-in-Line : goal.slice_bounds-print-end-in-Line
slice_bounds-print-end-in-Line c =
    let a = c.args in
    length_of_front _ _
    (line_within a.cfg.now a.buffer.now (as_lent a.state.now) a.played.next.at a.text.now
    (rw c.in-Line.is at c.step.ensures.promise))
