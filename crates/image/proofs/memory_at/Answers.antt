-- `memory_at` meets its contract.
use native.Mathlib.Omega.{arith}
use Rattle.manual.proofs.ConfigurationLaws.{config_tells}
use Rattle.image.proofs.memory_at.Goals as goal

pub overflow_mul-result : goal.overflow_mul-result
overflow_mul-result c = let t = config_tells _ c.requires in omega (arith, c.events.ensures, t.n_most)

pub overflow_add-result : goal.overflow_add-result
overflow_add-result c = let t = config_tells _ c.requires in omega (arith, c.events.ensures, t.n_most)
