use mathlib.Core.Path.{sym, ◌∙◌}
use native.Mathlib.Omega.{arith}
use borrow.Author.Tests.{eqb-true, eqb-false}
use Rattle.manual.proofs.ConfigurationLaws.{config_tells}
use Rattle.config.proofs.HalvingLaws.{all_rows, halves_power, one_left, found_where_left, nothing_where_left}
use Rattle.config.proofs.find_code.Goals as goal

pub overflow_sub-last : goal.overflow_sub-last
overflow_sub-last c = let t = (config_tells _ c.requires).n_least in omega (arith, c.events-last.ensures)

pub loop-init : goal.loop-init
loop-init c =
    let t = (config_tells _ c.requires).n_most in (
      all_rows _ _ _ c.requires c.events-last.ensures,
      omega (arith, c.events-last.ensures),
    )

pub halved-range-requires : goal.halved-range-requires
halved-range-requires c = c.loop.invariant.0

pub loop-preserved : goal.loop-preserved
loop-preserved c = (
  c.halved-range.ensures.narrowed,
  halves_power 9 _ _ _ (omega arith) c.halved-range.ensures.at_most_half c.loop.invariant.1,
)

pub has_code-requires : goal.has_code-requires
has_code-requires c =
    let n = c.loop.invariant.0 in
    let t = (config_tells _ n.accepted).n_most in
    omega (arith, n.low_to_high, n.high_below)

pub returns-then-has_code : goal.returns-then-has_code
returns-then-has_code c =
    let l = c.loop in
    sym
    (found_where_left _ _ _ l.invariant.0
    (one_left 9 _ _ (omega arith) l.invariant.0.low_to_high l.invariant.1)
    (eqb-true _ _ (sym c.has_code.ensures ∙ c.if-has_code.true)))

pub returns-else-has_code : goal.returns-else-has_code
returns-else-has_code c =
    let l = c.loop in
    sym
    (nothing_where_left _ _ _ l.invariant.0
    (one_left 9 _ _ (omega arith) l.invariant.0.low_to_high l.invariant.1)
    (eqb-false _ _ (sym c.has_code.ensures ∙ c.if-has_code.false)))
