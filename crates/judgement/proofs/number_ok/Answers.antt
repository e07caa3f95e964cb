use mathlib.Core.Path.{◌≡◌, sym, ap, subst, ◌∙◌}
use mathlib.Core.Bool.{true, false, not}
use Prim.Native.Nat.{ℕ}
use native.Mathlib.Omega.{arith}
use lib.Dec.{eqb}
use lib.IntN.{ℤ, pos}
use mir.Facts.{to_z-of_z}
use Rattle.manual.specs.Words.{between, eq_z, nat_of}
use Rattle.manual.specs.Configuration.{column, cycle_of, is_internal}
use Rattle.manual.specs.Debouncing.{top, bottom}
use Rattle.manual.specs.WellFormed.{d_fits}
use Rattle.manual.proofs.WordsLaws.{neither, eq_z_true}
use Rattle.manual.proofs.ConfigurationLaws.{config_tells}
use Rattle.manual.proofs.DebouncingLaws.{between_ends, zero_ok}
use Rattle.config.proofs.SignedInCode.{zero_is}
use Rattle.config.proofs.PartLaws.{column_is, row_within}
use Rattle.debounce.specs.Rows.{RowOf}
use Rattle.debounce.proofs.SmallNumbersLaws.{held}
use Rattle.debounce.proofs.RowsLaws.{small_row, top_is, bottom_is}
use Rattle.debounce.proofs.RowOfPart.{row_is}
use Rattle.judgement.proofs.WellFormedLaws.{or_zero}
use Rattle.judgement.proofs.number_ok.Goals as goal

pub part_of-part-requires : goal.part_of-part-requires
part_of-part-requires c = row_within _ _ c.requires.accepted c.requires.below

pub bottom-requires : goal.bottom-requires
bottom-requires c =
    let row : RowOf c.args.cfg.now c.args.event.0 c.row_of-row.result =
    let a = c.args in
    row_is a.cfg.now a.event.0
    (subst (λ p. RowOf p 0 c.row_of-row.result) c.part_of-part.ensures c.row_of-row.ensures) in
    small_row _ _ _ (row) c.requires.accepted c.requires.below

pub top-requires : goal.top-requires
top-requires c =
    let row : RowOf c.args.cfg.now c.args.event.0 c.row_of-row.result =
    let a = c.args in
    row_is a.cfg.now a.event.0
    (subst (λ p. RowOf p 0 c.row_of-row.result) c.part_of-part.ensures c.row_of-row.ensures) in
    small_row _ _ _ (row) c.requires.accepted c.requires.below

pub returns : goal.returns
unfolding d_fits between
returns c =
    let row : RowOf c.args.cfg.now c.args.event.0 c.row_of-row.result =
    let a = c.args in
    row_is a.cfg.now a.event.0
    (subst (λ p. RowOf p 0 c.row_of-row.result) c.part_of-part.ensures c.row_of-row.ensures) in
    let cycle : c.cycle_of.result
    ≡ cycle_of c.args.cfg.now c.args.event.0 =
    let a = c.args in
    c.cycle_of.ensures
    ∙ ap nat_of
    ((λ j. column 3 (c.part_of-part.ensures j) 0)
    ∙ column_is a.cfg.now a.event.0 3 (omega arith)) in
    let a = c.args in
    let d = a.d in
    let fits = c.ranges.d in
    let pre = c.requires in
    let low = held (c.bottom.ensures ∙ bottom_is _ _ _ (row)) c.bottom.type_inv in
    let high = held (c.top.ensures ∙ top_is _ _ _ (row)) c.top.type_inv in
    rw (
      to_z-of_z fits,
      low,
      high,
      zero_is d fits.sfits,
      ← cycle,
      ← c.one_runs-running.ensures,
      ← (row).kind_is,
    )
    (or_zero c.one_runs-running.result (eqb c.row_of-row.result.kind 0) (eq_z d (pos 0))
    (between (bottom a.cfg.now a.event.0) (top a.cfg.now a.event.0) d)
    (λ moves zero.
    let cfg = a.cfg.now in
    let e = a.event.0 in
    let range = ((config_tells cfg pre.accepted).row e pre.below).range in
    let internal : is_internal cfg e ≡ false =
    ap (λ (k : ℕ). eqb k 0) (sym (row).kind_is) ∙
    (neither (not c.one_runs-running.result) (eqb c.row_of-row.result.kind 0) moves).1 in
    subst (λ (z : ℤ). between (bottom cfg e) (top cfg e) z ≡ true) (sym (eq_z_true d (pos 0) zero))
    (between_ends cfg a.board e (range internal) internal (pos 0) (zero_ok cfg a.board e range))))
