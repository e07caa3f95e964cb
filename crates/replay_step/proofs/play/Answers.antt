-- `play` meets its contract.
use native.Mathlib.Omega.{arith}
use Rattle.manual.specs.Lent.{as_lent}
use Rattle.manual.proofs.ConfigurationLaws.{config_tells}
use Rattle.replay_step.proofs.BeginningLaws.{length_of_front}
use Rattle.replay_step.proofs.LengthsKept.{made_keeps}
use Rattle.replay_step.proofs.TurnLaws.{line_made, zeros_front}
use Rattle.replay_step.proofs.play.Goals as goal

pub slice_bounds-zeros-end : goal.slice_bounds-zeros-end
slice_bounds-zeros-end c = rw c.frame_bytes.ensures (config_tells c.args.cfg.now c.requires.accepted).F_most

pub slice_bounds-frame-end : goal.slice_bounds-frame-end
slice_bounds-frame-end c =
    length_of_front _ _ (rw c.frame_bytes.ensures (config_tells c.args.cfg.now c.requires.accepted).F_most)

pub fill_line-length-requires : goal.fill_line-length-requires
fill_line-length-requires c =
    let kept = made_keeps c.args.cfg.now _ c.args.call _ _ c.make-answer.ensures.promise in record {
      records_long = omega (arith, c.requires.records_long, kept, c.events.ensures);
      buffer_long = omega (arith, c.requires.buffer_long, c.events.ensures);
    }

pub returns-clause-promise : goal.returns-clause-promise
returns-clause-promise c =
    let a = c.args in
    line_made a.cfg.now a.call a.next a.buffer.now (as_lent a.state.now)
    (zeros_front 32 _ c.frame_bytes.ensures (config_tells a.cfg.now c.requires.accepted).F_most) c.events.ensures
    c.make-answer.ensures.promise c.fill_line-length.ensures

pub returns-clause-as_long : goal.returns-clause-as_long
returns-clause-as_long c = made_keeps c.args.cfg.now _ c.args.call _ _ c.make-answer.ensures.promise
