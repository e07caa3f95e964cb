-- `name_start` meets its contract.
use mathlib.Core.Path.{ap, ◌∙◌}
use native.Mathlib.Omega.{arith}
use Prim.Native.Nat.{◌+◌}
use Rattle.page_names.specs.Names.{is_space, leading, name_start}
use Rattle.page_names.proofs.NamesLaws.{rest_is, code_end_within}
use Rattle.page_names.proofs.name_start.Goals as goal

pub slice_bounds-spaces_in-count : goal.slice_bounds-spaces_in-count
slice_bounds-spaces_in-count c = omega (arith, c.code_end-end.ensures, code_end_within c.args.line.now)

pub slice_bounds-spaces_in-start : goal.slice_bounds-spaces_in-start
slice_bounds-spaces_in-start c = omega (arith, c.code_end-end.ensures, code_end_within c.args.line.now)

pub returns : goal.returns
unfolding name_start
returns c =
    let line = c.args.line.now in
    let end = c.code_end-end.result in
    rw (← c.code_end-end.ensures)
    (ap (λ k. end + k) (c.spaces_in.ensures ∙ ap (leading is_space) (rest_is line end)))
