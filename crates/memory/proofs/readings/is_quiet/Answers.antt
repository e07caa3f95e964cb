use mathlib.Core.Path.{ap, ◌∙◌}
use mathlib.Core.Bool.{Bool, not}
use Prim.Native.Nat.{ℕ}
use Rattle.history.specs.StatusByte.{test_failed, status_of}
use Rattle.manual.specs.State.{stored_at}
use Rattle.status.proofs.MasksLaws.{contains_is}
use Rattle.memory.proofs.readings.is_quiet.Goals as goal

-- src/readings.rt:11:1
pub returns : goal.returns
unfolding stored_at
returns c =
    ap (λ (b : Bool). not b)
    (contains_is c.status_of.result.0 test_failed c.contains.ensures
    ∙ ap (λ (byte : ℕ). status_of byte test_failed) c.status_of.ensures)
