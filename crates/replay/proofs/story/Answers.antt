use Prim.Native.Nat.{◌*◌, ◌≤◌}
use native.Mathlib.Omega.{arith}
use Rattle.manual.specs.Configuration.{events}
use Rattle.manual.proofs.ConfigurationLaws.{config_tells}
use Rattle.replay_step.proofs.BeginningLaws.{length_of_front}
use Rattle.replay_step.proofs.LengthsKept.{fresh_keeps}
use Rattle.replay_step.proofs.TurnLaws.{blocks_within}
use Rattle.replay.proofs.story.Goals as goal

pub memory_length-used-requires : goal.memory_length-used-requires
memory_length-used-requires c =
    let t = config_tells c.args.cfg.now c.requires.accepted in
    (rw c.places.ensures t.M_most, rw c.entry_frames.ensures t.payload_most)

pub overflow_mul-state : goal.overflow_mul-state
overflow_mul-state c =
    let t = config_tells c.args.cfg.now c.requires.accepted in omega (arith, c.events-n.ensures, t.n_most)

pub slice_bounds-state-end : goal.slice_bounds-state-end
slice_bounds-state-end c =
    (blocks_within c.args.cfg.now c.requires c.events-n.ensures
    (rw (c.places.ensures, c.entry_frames.ensures) at c.memory_length-used.ensures)
    ).records_within

pub slice_bounds-state-end-2 : goal.slice_bounds-state-end-2
slice_bounds-state-end-2 c =
    length_of_front _ _
    (blocks_within c.args.cfg.now c.requires c.events-n.ensures
    (rw (c.places.ensures, c.entry_frames.ensures) at c.memory_length-used.ensures)
    ).records_within

pub slice_bounds-state-end-3 : goal.slice_bounds-state-end-3
slice_bounds-state-end-3 c =
    (blocks_within c.args.cfg.now c.requires c.events-n.ensures
    (rw (c.places.ensures, c.entry_frames.ensures) at c.memory_length-used.ensures)
    ).numbers_within

pub slice_bounds-state-end-4 : goal.slice_bounds-state-end-4
slice_bounds-state-end-4 c =
    length_of_front _ _
    (blocks_within c.args.cfg.now c.requires c.events-n.ensures
    (rw (c.places.ensures, c.entry_frames.ensures) at c.memory_length-used.ensures)
    ).numbers_within

pub slice_bounds-state-end-5 : goal.slice_bounds-state-end-5
slice_bounds-state-end-5 c =
    (blocks_within c.args.cfg.now c.requires c.events-n.ensures
    (rw (c.places.ensures, c.entry_frames.ensures) at c.memory_length-used.ensures)
    ).memory_within

pub slice_bounds-state-end-6 : goal.slice_bounds-state-end-6
slice_bounds-state-end-6 c =
    length_of_front _ _
    (blocks_within c.args.cfg.now c.requires c.events-n.ensures
    (rw (c.places.ensures, c.entry_frames.ensures) at c.memory_length-used.ensures)
    ).memory_within

pub turns-requires : goal.turns-requires
turns-requires c =
    let few : events c.args.cfg.now ≤ 512 = (config_tells c.args.cfg.now c.requires.accepted).n_most in
    let part =
    length_of_front (4 * c.events-n.result) c.args.records.now
    (blocks_within c.args.cfg.now c.requires c.events-n.ensures
    (rw (c.places.ensures, c.entry_frames.ensures) at c.memory_length-used.ensures)
    ).records_within in
    let long =
    fresh_keeps c.args.cfg.now _ _ _ _ _ c.fresh.ensures.leaves (omega (arith, part, c.events-n.ensures)) in
    record {
      accepted = c.requires.accepted;
      records_long = omega (arith, long);
      buffer_long = omega (arith, few);
    }
