-- `story` meets its contract.
use mathlib.Core.Path.{ap, ◌∙◌}
use native.Mathlib.Omega.{arith}
use lib.ListN.{length}
use Rattle.manual.specs.Calls.{fresh_state}
use Rattle.manual.specs.WellFormed.{well_formed}
use Rattle.manual.proofs.ConfigurationLaws.{config_tells}
use Rattle.replay_step.proofs.TurnLaws.{blocks_within}
use Rattle.replay_step.proofs.BeginningLaws.{length_of_front}
use Rattle.page_story.specs.Story.{played}
use Rattle.page_story.proofs.StoryLaws.{reached, counted, formed, front_blocks, fresh_formed}
use Rattle.page_story.proofs.PageLaws.{shown_put}
use Rattle.page_story.proofs.story.Goals as goal

pub memory_length-used-requires : goal.memory_length-used-requires
memory_length-used-requires c =
    let t = config_tells c.args.cfg.now c.requires.0.accepted in
    (rw c.places.ensures t.M_most, rw c.entry_frames.ensures t.payload_most)

pub overflow_mul-state : goal.overflow_mul-state
overflow_mul-state c =
    let t = config_tells c.args.cfg.now c.requires.0.accepted in omega
    (arith, c.events-n.ensures, t.n_most)

pub slice_bounds-state-end : goal.slice_bounds-state-end
slice_bounds-state-end c =
    let a = c.args in
    (blocks_within a.cfg.now c.requires.0 c.events-n.ensures
    (rw (c.places.ensures, c.entry_frames.ensures) at c.memory_length-used.ensures)
    ).records_within

pub slice_bounds-state-end-2 : goal.slice_bounds-state-end-2
slice_bounds-state-end-2 c =
    let a = c.args in
    length_of_front _ _ (blocks_within a.cfg.now c.requires.0
    c.events-n.ensures
    (rw (c.places.ensures, c.entry_frames.ensures) at
    c.memory_length-used.ensures)
    ).records_within

pub slice_bounds-state-end-3 : goal.slice_bounds-state-end-3
slice_bounds-state-end-3 c =
    let a = c.args in
    (blocks_within a.cfg.now c.requires.0 c.events-n.ensures
    (rw (c.places.ensures, c.entry_frames.ensures) at
    c.memory_length-used.ensures)
    ).numbers_within

pub slice_bounds-state-end-4 : goal.slice_bounds-state-end-4
slice_bounds-state-end-4 c =
    let a = c.args in
    length_of_front _ _ (blocks_within a.cfg.now c.requires.0
    c.events-n.ensures
    (rw (c.places.ensures, c.entry_frames.ensures) at
    c.memory_length-used.ensures)
    ).numbers_within

pub slice_bounds-state-end-5 : goal.slice_bounds-state-end-5
slice_bounds-state-end-5 c =
    let a = c.args in
    (blocks_within a.cfg.now c.requires.0
    c.events-n.ensures
    (rw (c.places.ensures, c.entry_frames.ensures) at
    c.memory_length-used.ensures)
    ).memory_within

pub slice_bounds-state-end-6 : goal.slice_bounds-state-end-6
slice_bounds-state-end-6 c =
    let a = c.args in
    length_of_front _ _ (blocks_within a.cfg.now c.requires.0
    c.events-n.ensures
    (rw (
      c.places.ensures,
      c.entry_frames.ensures,
    ) at c.memory_length-used.ensures)
    ).memory_within

pub play-told-requires : goal.play-told-requires
play-told-requires c =
    let a = c.args in (
      front_blocks a.cfg.now c.requires.0
          c.events-n.ensures
          (rw (c.places.ensures, c.entry_frames.ensures) at
          c.memory_length-used.ensures),
      c.requires.2.log_short,
    )

pub log_of-log-requires : goal.log_of-log-requires
unfolding played
log_of-log-requires c =
    let a = c.args in
    let r = reached a.cfg.now a.text.now (fresh_state a.cfg.now) a.from.at (length a.text.now)
    c.play-told.ensures
    c.requires.1 in
    let k = counted a.cfg.now a.text.now (fresh_state a.cfg.now) a.from.at (length a.text.now)
    c.play-told.ensures in (
      omega (arith, k.made_few, c.requires.2.log_short),
      omega (
        arith,
        k.made_few,
        k.refused_few,
        c.requires.2.log_short,
      ),
      omega (arith, r.within, c.requires.2.log_short),
    )

pub body-requires : goal.body-requires
unfolding played
body-requires c =
    let a = c.args in
    let b = front_blocks a.cfg.now c.requires.0
    c.events-n.ensures
    (rw (c.places.ensures, c.entry_frames.ensures) at
    c.memory_length-used.ensures) in (
      record {
        accepted = c.requires.0.accepted;
        formed = ap (well_formed a.cfg.now) c.as_found.ensures
            ∙ formed a.cfg.now a.text.now (fresh_state a.cfg.now) a.from.at
            (length a.text.now) c.play-told.ensures
            (fresh_formed a.cfg.now b (fresh_state a.cfg.now).board);
      },
      c.requires.2.names_short,
      c.requires.2.for_page,
    )

pub returns : goal.returns
returns c =
    let a = c.args in
    shown_put a.cfg.now a.names.now a.unused c.play-told.result _
    c.log_of-log.ensures c.play-told.ensures
    c.as_found.ensures c.body.ensures
