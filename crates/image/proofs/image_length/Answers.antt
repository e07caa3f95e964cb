-- `image_length` meets its contract.
use mathlib.Core.Path.{sym, ap, ◌∙◌}
use Prim.Native.Nat.{ℕ, ◌+◌}
use native.Mathlib.Omega.{arith}
use lib.ListN.{length}
use Rattle.manual.specs.Lent.{as_found}
use Rattle.image.proofs.SaveLaws.{size_most, image_length}
use Rattle.image.proofs.image_length.Goals as goal

pub overflow_add-result-2 : goal.overflow_add-result-2
overflow_add-result-2 c =
    let most = size_most _ (as_found c.args.state.now) c.requires in omega (arith, most, c.used_length.ensures)

pub overflow_add-result-3 : goal.overflow_add-result-3
overflow_add-result-3 c =
    let most = size_most _ (as_found c.args.state.now) c.requires in omega (arith, most, c.used_length.ensures)

pub returns : goal.returns
returns c =
    ap (λ (k : ℕ). 20 + length c.args.state.now.records.now + k + 1) c.used_length.ensures
    ∙ sym (image_length _ (as_found c.args.state.now) c.requires)
