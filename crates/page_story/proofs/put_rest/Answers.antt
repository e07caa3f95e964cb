-- `put_rest` meets its contract.
use mathlib.Core.Path.{subst}
use native.Mathlib.Nat.{le_refl}
use native.Mathlib.Omega.{arith}
use Rattle.replay_step.specs.Beginning.{beginning}
use Rattle.replay_step.proofs.BeginningLaws.{length_of_front, ready_tells, ready_is}
use Rattle.replay_step.proofs.EachCallTakesAByte.{BeginningAhead, beginning_ahead}
use Rattle.page_text.specs.Text.{text}
use Rattle.page_text.proofs.PageLaws.{adds_as, adds_most}
use Rattle.page_story.specs.Page.{refused_configuration}
use Rattle.page_story.proofs.PageLaws.{rest_ready, rest_refused, rest_unreadable}
use Rattle.page_story.proofs.put_rest.Goals as goal

pub slice_bounds-cfg-end : goal.slice_bounds-cfg-end
slice_bounds-cfg-end c =
    omega (
      arith,
      (ready_tells _ _ _ (rw c.in-Ready.is at c.begin.ensures)).0,
      c.begin.auto.cfg,
    )

pub slice_bounds-story-end : goal.slice_bounds-story-end
slice_bounds-story-end c =
    length_of_front _ _ (omega (
      arith,
      (ready_tells _ _ _ (rw c.in-Ready.is at
          c.begin.ensures)).0,
      c.begin.auto.cfg,
    ))

pub story-requires : goal.story-requires
story-requires c =
    let a = c.args in
    let e = rw c.in-Ready.is at c.begin.ensures in
    let b = beginning a.longer a.text.now in (
      record {
        accepted = (ready_tells _ _ _ e).1;
        for_records = le_refl _;
        for_numbers = le_refl _;
        for_memory = le_refl _;
      },
      (subst (BeginningAhead a.text.now) (ready_is b _ e) (beginning_ahead a.longer a.text.now)).within,
      c.requires,
    )

pub returns-in-Ready : goal.returns-in-Ready
returns-in-Ready c =
    let a = c.args in
    adds_as (rest_ready a.longer a.text.now a.names.now a.unused _
    (beginning a.longer a.text.now)
    (rw c.in-Ready.is at
    c.begin.ensures))
    c.story.ensures

pub returns-in-Refused : goal.returns-in-Refused
unfolding refused_configuration text
returns-in-Refused c =
    let a = c.args in
    adds_most (omega arith) (adds_as (rest_refused a.longer a.text.now a.names.now a.unused _
    (beginning a.longer a.text.now) (rw c.in-Refused.is at
    c.begin.ensures)) c.put_bad.ensures)

pub returns-in-Unreadable : goal.returns-in-Unreadable
returns-in-Unreadable c =
    let a = c.args in
    adds_most (omega arith) (adds_as (rest_unreadable a.longer a.text.now a.names.now a.unused _
    (beginning a.longer a.text.now) (rw c.in-Unreadable.is at
    c.begin.ensures))
    c.put_unreadable.ensures)
