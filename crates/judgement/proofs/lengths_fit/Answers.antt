use Prim.Native.Nat.{◌≤◌}
use native.Mathlib.Omega.{arith}
use Rattle.manual.specs.WellFormed.{lengths_fit_with}
use Rattle.manual.proofs.ConfigurationLaws.{config_tells}
use Rattle.config.proofs.Tests.{joined_is}
use Rattle.judgement.proofs.lengths_fit.Goals as goal

pub memory_length-memory_length-requires : goal.memory_length-memory_length-requires
memory_length-memory_length-requires c =
    let t = config_tells _ c.requires in
    (rw c.places.ensures t.M_most, rw c.entry_frames.ensures t.payload_most)

pub overflow_mul-result : goal.overflow_mul-result
overflow_mul-result c =
    let t = config_tells _ c.requires in let h : c.events-n.result ≤ 512 = rw c.events-n.ensures t.n_most in record { fits = omega arith }

pub returns : goal.returns
unfolding lengths_fit_with
returns c =
    rw (
      c.memory_length-memory_length.ensures,
      c.entry_frames.ensures,
      c.places.ensures,
      c.events-n.ensures,
    )
    (joined_is _ _)
