-- Laws of specs/Rows.antt.
use mathlib.Core.Path.{◌≡◌, refl}
use mathlib.Core.Bool.{◌&&◌, and_comm}
use Prim.Native.Nat.{ℕ, zero, suc, ◌+◌, ◌-◌}
use native.Mathlib.Numerals.{unary_clauses}
use denote.Enum.Declared.{tag_of}
use lib.IntN.{ℤ, pos, negsuc}
use lib.Signed.{lt_z}
use Rattle.history.specs.Words.{holds}
use Rattle.manual.specs.Words.{all_below, between, nat_of}
use Rattle.manual.specs.Configuration.{Configuration, column, row_ok, rises}
use Rattle.config.specs.contracts.Column.{the_type}
use Rattle.config.specs.declared.Column.{Column}
use Rattle.config.specs.declared.Column.TheVariants.{TroubleCode, Priority, Cycle, Kind, P, Q, Up, Down, Jumps, Confirm, Heal, Age, Indicator, Needed}
use Rattle.config.specs.Rows.{number_of, of_kind, rises_here, row_fits}
use Rattle.config.proofs.Tests.{all_both}

-- a column's number in the code is the table's
pub numbered : (k : Column) → tag_of the_type k + 1 ≡ number_of k
numbered TroubleCode = refl
numbered Priority = refl
numbered Cycle = refl
numbered Kind = refl
numbered P = refl
numbered Q = refl
numbered Up = refl
numbered Down = refl
numbered Jumps = refl
numbered Confirm = refl
numbered Heal = refl
numbered Age = refl
numbered Indicator = refl
numbered Needed = refl

module _ (cfg : Configuration) where
  -- an event but the first, and the event before
  pub rises_after : (e : ℕ) → (e ≡ 0 → ⊥) → rises_here cfg e ≡ lt_z (column 1 cfg (e - 1)) (column 1 cfg e)
  rises_after zero n = absurd (n refl)
  rises_after (suc e) n = simp unary_clauses

  -- a negative number is no kind, and may be judged as any
  pub kind_judged : (z : ℤ) (e : ℕ)
      → between (pos 0) (pos 2) z && holds (of_kind z cfg e)
      ≡ between (pos 0) (pos 2) z && holds (of_kind (pos (nat_of z)) cfg e)
  unfolding between
  kind_judged (pos n) e = refl
  kind_judged (negsuc n) e = refl

  all_rise : (n : ℕ) → all_below n (rises_here cfg) ≡ all_below (n - 1) (rises cfg)
  unfolding all_below
  all_rise zero = refl
  all_rise (suc n) = simp unary_clauses (after n)
    where
      after : (n : ℕ) → all_below n (rises_here cfg) && rises_here cfg n ≡ all_below n (rises cfg)
      after zero = refl
      after (suc n) = rw (after n)

  -- each row alone, and each two neighbours
  pub all_fit : (n : ℕ) → all_below n (row_fits cfg) ≡ all_below n (row_ok cfg) && all_below (n - 1) (rises cfg)
  all_fit n =
      rw (all_both n (rises_here cfg) (row_ok cfg), all_rise n)
      (and_comm (all_below (n - 1) (rises cfg)) (all_below n (row_ok cfg)))
