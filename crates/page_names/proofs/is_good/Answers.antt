-- `is_good` meets its contract.
use Rattle.page_names.proofs.NamesLaws.{name_start_within, good_is}
use native.Mathlib.Omega.{arith}
use Rattle.page_names.proofs.is_good.Goals as goal

pub overflow_sub-size : goal.overflow_sub-size
overflow_sub-size c =
    omega (arith, c.name_start-start.ensures, name_start_within c.args.line.now)

pub slice_bounds-name-count : goal.slice_bounds-name-count
slice_bounds-name-count c =
    omega (arith, c.name_start-start.ensures, name_start_within c.args.line.now)

pub slice_bounds-name-start : goal.slice_bounds-name-start
slice_bounds-name-start c =
    omega (arith, c.name_start-start.ensures, name_start_within c.args.line.now)

pub returns : goal.returns
returns c =
    good_is c.args.line.now c.digits_in-digits.ensures c.code_end-end.ensures c.name_start-start.ensures c.is_text.ensures
