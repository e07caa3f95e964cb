-- `would_print` runs safely and returns.
use Rattle.replay_step.proofs.BeginningLaws.{length_of_front, ready_tells}
use native.Mathlib.Omega.{arith}
use native.Mathlib.Nat.{le_refl}
use Rattle.replay_cases.proofs.would_print.Goals as goal

pub slice_bounds-cfg-end : goal.slice_bounds-cfg-end
slice_bounds-cfg-end c =
    omega (
      arith,
      (ready_tells _ _ _ (rw c.in-Ready.is at c.begin.ensures)).0,
      c.begin.auto.cfg,
    )

pub slice_bounds-story-end : goal.slice_bounds-story-end
slice_bounds-story-end c =
    length_of_front _ _
    (omega (
      arith,
      (ready_tells _ _ _
          (rw c.in-Ready.is at c.begin.ensures)).0,
      c.begin.auto.cfg,
    ))

pub story-requires : goal.story-requires
story-requires c =
    record {
      accepted =
          (ready_tells _ _ _ (rw c.in-Ready.is at c.begin.ensures)
          ).1;
      for_records = le_refl _;
      for_numbers = le_refl _;
      for_memory = le_refl _;
    }
