-- The D that a report or a tick answers is one that a well-formed state has, where the D before was.
use mathlib.Core.Path.{◌≡◌, ap, ◌∙◌}
use mathlib.Core.Bool.{true}
use Prim.Native.Nat.{ℕ, ◌<◌}
use lib.IntN.{ℤ}
use Rattle.manual.specs.declared.Board.{Board}
use Rattle.manual.specs.Configuration.{Configuration, events, cycle_of, is_time, config_ok}
use Rattle.manual.specs.State.{runs}
use Rattle.manual.specs.Debouncing as manual
use Rattle.manual.specs.WellFormed.{d_ok}
use Rattle.manual.proofs.ConfigurationLaws.{config_tells}
use Rattle.manual.proofs.DebouncingLaws.{report_ok, tick_ok}
use Rattle.debounce.specs.declared.Row.{Row}
use Rattle.debounce.specs.declared.Debounced.{Debounced}
use Rattle.debounce.specs.Rows.{RowOf, answered, reported_by, ticked_by}
use Rattle.debounce.proofs.RowsLaws.{reported_is, ticked_is}

module _ (cfg : Configuration) (e : ℕ) (row : Row) (o : RowOf cfg e row) (ok : config_ok cfg ≡ true) (h : e < events cfg)
    (b : Board) (r : runs b (cycle_of cfg e) ≡ true) where
  pub report_stays : (code : ℕ) (d : ℤ) (x : Debounced) → answered x ≡ reported_by row code d → d_ok cfg b e d ≡ true
      → d_ok cfg b e x.number ≡ true
  report_stays code d x q f =
      let n = ap (λ (y : manual.Debounced). y.number) (q ∙ reported_is cfg e row o code d) in
      rw n (report_ok cfg b e ((config_tells cfg ok).row e h).range r code d f)

  pub tick_stays : is_time cfg e ≡ true → (ms : ℕ) (d : ℤ) (x : Debounced) → answered x ≡ ticked_by row ms d
      → d_ok cfg b e d ≡ true → d_ok cfg b e x.number ≡ true
  tick_stays t ms d x q f =
      let n = ap (λ (y : manual.Debounced). y.number) (q ∙ ticked_is cfg e row o ms d) in
      rw n (tick_ok cfg b e ((config_tells cfg ok).row e h).range r t ms d f)
