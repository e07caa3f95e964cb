use mathlib.Core.Path.{sym, ap, ◌∙◌}
use Prim.Native.Nat.{ℕ, ◌+◌}
use native.Mathlib.Omega.{arith}
use Rattle.diagnostics.specs.Showing.{shown_length}
use Rattle.diagnostics.proofs.ShowLaws.{told_most}
use Rattle.diagnostics.proofs.shown_length.Goals as goal

pub overflow_add-result : goal.overflow_add-result
overflow_add-result c =
    omega (arith, c.told_length.ensures, told_most _ c.requires c.args.told)

pub returns-in-Some : goal.returns-in-Some
returns-in-Some c =
    let a = c.args in
    ap (λ (k : ℕ). 7 + k) c.told_length.ensures
    ∙ ap (shown_length a.cfg.now a.told) (sym c.in-Some.is)
