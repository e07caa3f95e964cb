-- Laws of specs/Rows.antt, in its order: what the manual says of a row alone it says of every event that has the row,
-- and the numbers of an accepted row and of a well-formed state are small.
use mathlib.Core.Path.{◌≡◌}
use mathlib.Core.Bool.{Bool, true, not, ◌||◌}
use Prim.Native.Nat.{ℕ, ◌≤◌, ◌<◌}
use native.Mathlib.Omega.{arith}
use lib.Dec.{eqb}
use lib.IntN.{ℤ, pos, negsuc, nat_abs}
use mir.Syntax.{w32}
use mir.Val.{to_z, of_z}
use Rattle.history.proofs.WordsLaws.{part}
use Rattle.manual.specs.Configuration.{Configuration, events, column, is_internal, is_counter}
use Rattle.manual.specs.Configuration.{low_of, high_of, up_of, down_of, row_ok, config_ok}
use Rattle.manual.specs.Debouncing.{top, bottom, verdict_at, leaves_at, internal_report, counter_up}
use Rattle.manual.specs.Debouncing.{counter_down, counter_report, time_report, reported, ticked}
use Rattle.manual.specs.WellFormed.{d_fits}
use Rattle.manual.proofs.WordsLaws.{by, all_below_at}
use Rattle.debounce.specs.declared.Row.{Row}
use Rattle.debounce.specs.Rows.{RowOf, alone, reported_by, ticked_by, SmallRow, SmallReport, SmallTick}
use Rattle.debounce.proofs.SmallNumbersLaws.{abs_add, abs_sub, between_or_zero, zero_or_between, back}

-- ---- the row alone, and an event that has the row

module _ (cfg : Configuration) (e : ℕ) (row : Row) (o : RowOf cfg e row) where
  pub top_is : top (alone row) 0 ≡ top cfg e
  unfolding top alone column
  top_is = rw (← o.kind_is, ← o.high_is)

  pub bottom_is : bottom (alone row) 0 ≡ bottom cfg e
  unfolding bottom alone column
  bottom_is = rw (← o.kind_is, ← o.low_is)

  pub reported_is : (code : ℕ) (d : ℤ) → reported_by row code d ≡ reported cfg e code d
  unfolding reported internal_report leaves_at verdict_at top bottom counter_report counter_up counter_down time_report alone
      column
  reported_is code d = rw (← o.kind_is, ← o.low_is, ← o.high_is, ← o.up_is, ← o.down_is, ← o.jumps_is)

  pub ticked_is : (ms : ℕ) (d : ℤ) → ticked_by row ms d ≡ ticked cfg e ms d
  unfolding ticked leaves_at verdict_at top bottom alone column
  ticked_is ms d = rw (← o.kind_is, ← o.low_is, ← o.high_is)

-- ---- a small row

module _ {row : Row} (s : SmallRow row) where
  -- 32 bits hold its numbers unchanged
  pub low_back : to_z w32 (of_z w32 row.low) ≡ row.low
  low_back = back row.low (omega arith)

  pub high_back : to_z w32 (of_z w32 row.high) ≡ row.high
  high_back = back row.high (omega arith)

  pub up_back : to_z w32 (of_z w32 row.up) ≡ row.up
  up_back = back row.up (omega arith)

  pub down_back : to_z w32 (of_z w32 row.down) ≡ row.down
  down_back = back row.down (omega arith)

  -- its ends are small
  pub top_small : nat_abs (top (alone row) 0) ≤ 30001
  unfolding top alone column
  top_small =
      by (eqb row.kind 2) (λ z. nat_abs z ≤ 30001) (λ t. omega (arith, abs_add row.high (pos 1)))
      (λ t. omega arith)

  pub bottom_small : nat_abs (bottom (alone row) 0) ≤ 30001
  unfolding bottom alone column
  bottom_small =
      by (eqb row.kind 2) (λ z. nat_abs z ≤ 30001) (λ t. omega (arith, abs_sub row.low (pos 1))) (λ t. omega arith)

-- ---- a row of an accepted configuration, and a D of a well-formed state

module _ (cfg : Configuration) (e : ℕ) (row : Row) (o : RowOf cfg e row) (ok : config_ok cfg ≡ true)
    (h : e < events cfg) where
  row_ok_lem : row_ok cfg e ≡ true
  unfolding config_ok
  row_ok_lem = all_below_at (events cfg) (row_ok cfg) (part _ ok 5) e h

  -- "P −30,000 to −1, Q 1 to 30,000; kind 0: both 0", "up, down: kind 1: 1 to 30,000; else 0"
  pub small_row : SmallRow row
  unfolding row_ok
  small_row = record {
    low =
        rw o.low_is
        (zero_or_between (is_internal cfg e) (negsuc 29999) (negsuc 0) (low_of cfg e) 30000 (omega arith) (omega arith)
        (part _ row_ok_lem 4));
    high =
        rw o.high_is
        (zero_or_between (is_internal cfg e) (pos 1) (pos 30000) (high_of cfg e) 30000 (omega arith) (omega arith)
        (part _ row_ok_lem 5));
    up =
        rw o.up_is
        (between_or_zero (is_counter cfg e) (pos 1) (pos 30000) (up_of cfg e) 30000 (omega arith) (omega arith)
        (part _ row_ok_lem 6));
    down =
        rw o.down_is
        (between_or_zero (is_counter cfg e) (pos 1) (pos 30000) (down_of cfg e) 30000 (omega arith) (omega arith)
        (part _ row_ok_lem 7));
  }

  module _ (running : Bool) (d : ℤ) (f : d_fits cfg running e d ≡ true) where
    -- "D is 0 …, else in P..Q (kind 1) or P−1..Q+1 (kind 2)"
    small_d : nat_abs d ≤ 30001
    unfolding d_fits
    small_d =
        zero_or_between (not running || is_internal cfg e) (bottom cfg e) (top cfg e) d 30001
        (rw (bottom_is cfg e row o) at (bottom_small small_row))
        (rw (top_is cfg e row o) at (top_small small_row))
        f

    pub small_report : SmallReport row d
    small_report = record { of_row = small_row; of_d = small_d }

    pub small_tick : (ms : ℕ) → ms ≤ 60000 → SmallTick row ms d
    small_tick ms m = record { of_row = small_row; of_d = small_d; of_ms = m }
