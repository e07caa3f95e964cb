use mathlib.Core.Path.{ap, ◌∙◌}
use Prim.Native.Nat.{ℕ}
use Rattle.history.specs.StatusByte.{test_failed_since_last_clear, status_of}
use Rattle.manual.specs.State.{stored_at}
use Rattle.status.proofs.MasksLaws.{contains_is}
use Rattle.memory.proofs.readings.has_failed.Goals as goal

-- src/readings.rt:18:1
pub returns : goal.returns
unfolding stored_at
returns c =
    contains_is c.status_of.result.0 test_failed_since_last_clear c.contains.ensures
    ∙ ap (λ (byte : ℕ). status_of byte test_failed_since_last_clear) c.status_of.ensures
