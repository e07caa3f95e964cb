-- tick_down
use native.Mathlib.Omega.{arith}
use lib.IntN.{◌+ℤ◌, neg_ℤ, pos, +ℤ_idl}
use mir.Facts.{to_z-of_z}
use Rattle.manual.specs.Debouncing.{bottom}
use Rattle.manual.specs.Words.{smaller}
use Rattle.debounce.specs.Rows.{alone}
use Rattle.debounce.proofs.SmallNumbersLaws.{abs_neg, waited_is, waited_small, back, fits, held}
use Rattle.debounce.proofs.RowsLaws.{bottom_small}
use Rattle.debounce.proofs.tick_down.Goals as goal

pub overflow_sub-end : goal.overflow_sub-end
overflow_sub-end c =
    let end = bottom (alone c.args.row) 0 in
    simp (held c.bottom-end.ensures c.bottom-end.type_inv, +ℤ_idl (neg_ℤ end))
    (fits (neg_ℤ end) (omega (arith, abs_neg end, bottom_small c.requires.of_row)))

pub overflow_sub-result : goal.overflow_sub-result
overflow_sub-result c =
    let a = c.args in
    let p = c.requires in
    let end = bottom (alone a.row) 0 in
    let waited = smaller (neg_ℤ a.d +ℤ pos a.ms) (neg_ℤ end) in
    simp (
      held c.goes_on.ensures c.goes_on.type_inv,
      held c.bottom-end.ensures c.bottom-end.type_inv,
      to_z-of_z c.ranges.d,
      +ℤ_idl (neg_ℤ a.d),
      +ℤ_idl (neg_ℤ end),
      +ℤ_idl (neg_ℤ waited),
      back (neg_ℤ a.d) (omega (arith, abs_neg a.d)),
      back (neg_ℤ end) (omega (arith, abs_neg end, bottom_small p.of_row)),
    )
    (fits (neg_ℤ waited) (omega (arith, abs_neg waited, waited_small a.d end a.ms p.of_d (bottom_small p.of_row) p.of_ms)))

pub returns : goal.returns
returns c =
    let a = c.args in
    let p = c.requires in
    let end = bottom (alone a.row) 0 in
    let waited = smaller (neg_ℤ a.d +ℤ pos a.ms) (neg_ℤ end) in
    simp (
      held c.goes_on.ensures c.goes_on.type_inv,
      held c.bottom-end.ensures c.bottom-end.type_inv,
      to_z-of_z c.ranges.d,
      +ℤ_idl (neg_ℤ a.d),
      +ℤ_idl (neg_ℤ end),
      +ℤ_idl (neg_ℤ waited),
      back (neg_ℤ a.d) (omega (arith, abs_neg a.d)),
      back (neg_ℤ end) (omega (arith, abs_neg end, bottom_small p.of_row)),
      back (neg_ℤ waited) (omega (arith, abs_neg waited, waited_small a.d end a.ms p.of_d (bottom_small p.of_row) p.of_ms)),
    )
    (waited_is a.d end a.ms)
