use mathlib.Core.Path.{◌≡◌, refl, ◌∙◌}
use native.Mathlib.Omega.{arith}
use lib.ListN.{length}
use borrow.Author.Tests.{not-true, not-false}
use Rattle.manual.specs.Lent.{as_lent}
use Rattle.page_story.proofs.StoryLaws.{none_yet, turn_more, turn_rest, counted}
use Rattle.page_story.proofs.turns.Goals as goal

pub loop-turn-init : goal.loop-turn-init
loop-turn-init c = (refl, refl, omega arith, none_yet _ _ _)

pub returns-then-not-played : goal.returns-then-not-played
returns-then-not-played c =
    turn_rest _ _ _ _ _ c.loop-turn.invariant.2 c.loop-turn.invariant.3
    (not-true c.loop-turn.played.more c.if-not-played.true)

pub turn-played-requires : goal.turn-played-requires
turn-played-requires c =
    let a = c.args in
    let k = counted a.cfg.now a.text.now (as_lent a.state.now) a.from.at c.loop-turn._turn
    c.loop-turn.invariant.3 in (
      record {
        accepted = c.requires.0.accepted;
        records_long = omega (arith, c.requires.0.records_long, c.loop-turn.invariant.0);
        buffer_long = omega (arith, c.requires.0.buffer_long, c.loop-turn.invariant.1);
      },
      omega (arith, k.made_few, c.loop-turn-test.true, c.requires.1),
      omega (arith, k.made_few, k.refused_few, c.loop-turn-test.true, c.requires.1),
    )

pub loop-turn-preserved : goal.loop-turn-preserved
loop-turn-preserved c = (
  c.turn-played.ensures.as_long ∙ c.loop-turn.invariant.0,
  c.turn-played.auto.line ∙ c.loop-turn.invariant.1,
  omega (arith, c.loop-turn-test.true),
  turn_more _ _ _ _ c.loop-turn.invariant.3
      (not-false c.loop-turn.played.more c.if-not-played.false)
      c.turn-played.ensures.promise,
)

pub returns : goal.returns
returns c =
    let e : c.loop-turn._turn ≡ length c.args.text.now =
    omega (arith, c.loop-turn.invariant.2, c.loop-turn-test.false) in
    rw (← e) c.loop-turn.invariant.3
