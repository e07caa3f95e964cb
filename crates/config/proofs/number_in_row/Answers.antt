use mathlib.Core.Path.{◌∙◌, ap}
use Prim.Native.Nat.{ℕ, ◌+◌, ◌-◌, ◌*◌}
use Rattle.manual.specs.Configuration.{number_at, column}
use Rattle.config.proofs.SignedInCode.{back}
use Rattle.config.proofs.RowsLaws.{numbered}
use Rattle.config.proofs.number_in_row.Goals as goal

pub returns : goal.returns
unfolding column
returns c =
    let a = c.args in
    back c.number_at.result c.number_at.type_inv ∙ c.number_at.ensures
    ∙ ap (λ (n : ℕ). number_at a.cfg.now (3 + 14 * a.event.0 + (n - 1))) (numbered a.k)
