-- `with_store` meets its contract: a store raises a number by one at most.
use mathlib.Core.Path.{ap, ◌∙◌}
use mathlib.Core.List.{List}
use Prim.Native.Nat.{ℕ}
use Rattle.manual.specs.Counts.{numbers, raised, past}
use Rattle.counts.proofs.NearLaws.{store_not_past}
use Rattle.counts.proofs.with_store.Goals as goal

pub sum-requires : goal.sum-requires
sum-requires c =
    ap (λ (l : List ℕ). past (raised l (numbers c.args.rise))) (c.rise_of.ensures 0)
    ∙ store_not_past c.args.rise 0 c.args.did c.requires

pub returns : goal.returns
returns c =
    let rise = c.args.rise in
    λ e. c.sum.ensures ∙ ap (λ (l : List ℕ). raised l (numbers rise)) (c.rise_of.ensures e)
