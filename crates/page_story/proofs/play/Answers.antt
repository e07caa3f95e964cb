-- `play` meets its contract.
use mathlib.Core.Path.{ap, ◌∙◌}
use native.Mathlib.Omega.{arith}
use lib.ListN.{length}
use Rattle.manual.specs.State.{State}
use Rattle.manual.specs.Answers.{of_answer}
use Rattle.manual.specs.Calls.{fresh_state}
use Rattle.manual.proofs.ConfigurationLaws.{config_tells}
use Rattle.manual.proofs.WellFormedLaws.{state_tells}
use Rattle.page_story.specs.Story.{at_first, turns, played}
use Rattle.page_story.proofs.StoryLaws.{fresh_is, fresh_formed}
use Rattle.page_story.proofs.play.Goals as goal

pub turns-requires : goal.turns-requires
turns-requires c =
    let a = c.args in
    let pre = c.requires in
    let board = a.state.now.board in
    let fresh = fresh_is a.cfg.now pre.0 board (of_answer c.fresh.result) c.fresh.ensures.leaves in
    let long = (state_tells a.cfg.now (fresh_state a.cfg.now) (fresh_formed a.cfg.now pre.0 board)).lengths.records in
    let few = (config_tells a.cfg.now pre.0.accepted).n_most in (
      record {
        accepted = pre.0.accepted;
        records_long = omega (arith, long, ap (λ (s : State). length s.records) fresh);
        buffer_long = omega (arith, few);
      },
      pre.1,
    )

pub returns : goal.returns
unfolding played
returns c =
    let a = c.args in
    c.turns.ensures
    ∙ ap (λ (s : State). turns a.cfg.now a.text.now (length a.text.now) (at_first s a.from.at))
    (fresh_is a.cfg.now c.requires.0 a.state.now.board (of_answer c.fresh.result) c.fresh.ensures.leaves)
