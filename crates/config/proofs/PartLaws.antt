-- An event's row as a part: what the part says of event 0 the configuration says of the event.
use mathlib.Core.Path.{◌≡◌, ap, ◌∙◌}
use mathlib.Core.Bool.{true}
use Prim.Native.Nat.{ℕ, ◌+◌, ◌-◌, ◌*◌, ◌≤◌, ◌<◌}
use native.Mathlib.Omega.{arith}
use lib.IntN.{pos}
use lib.ListN.{length, get_or, drop}
use lib.Seq.{get_or-take, get_or-drop}
use borrow.Author.Tests.{eqb-true}
use Rattle.history.proofs.WordsLaws.{part}
use Rattle.manual.specs.Words.{nat_of}
use Rattle.manual.specs.Configuration.{Configuration, in_front, row_width, events, column, limits_of, config_ok}
use Rattle.manual.specs.Configuration.{needed_of}
use Rattle.manual.proofs.ConfigurationLaws.{config_tells}
use Rattle.config.specs.Rows.{part_of, RowWithin, RowsWithin}

module _ (cfg : Configuration) (e : ℕ) where
  pub column_is : (k : ℕ) → k ≤ row_width → column k (part_of cfg e) 0 ≡ column k cfg e
  unfolding column
  column_is k h =
      let i : in_front + row_width * 0 + (k - 1) < in_front + row_width = omega arith in
      let j : row_width * e + (in_front + row_width * 0 + (k - 1)) ≡ in_front + row_width * e + (k - 1) = omega arith in
      get_or-take (in_front + row_width) (drop (row_width * e) cfg) (in_front + row_width * 0 + (k - 1)) (pos 0) i
      ∙ get_or-drop (row_width * e) cfg (in_front + row_width * 0 + (k - 1)) (pos 0)
      ∙ ap (λ (n : ℕ). get_or cfg n (pos 0)) j

  pub limits_are : limits_of (part_of cfg e) 0 ≡ limits_of cfg e
  limits_are =
      rw (
        column_is 10 (omega arith),
        column_is 11 (omega arith),
        column_is 12 (omega arith),
        column_is 13 (omega arith),
      )

  pub needed_are : needed_of (part_of cfg e) 0 ≡ needed_of cfg e
  needed_are = ap nat_of (column_is 14 (omega arith))

  -- "the length is exactly 3 + 13n", with W5 3 + 14n
  pub row_within : config_ok cfg ≡ true → e < events cfg → RowWithin cfg e
  unfolding config_ok
  row_within ok h =
      let exactly : length cfg ≡ in_front + row_width * events cfg =
      eqb-true (length cfg) (in_front + row_width * events cfg) (part _ ok 4) in
      record { event_inside = omega (arith, (config_tells cfg ok).n_most); within = omega (arith, exactly) }

pub rows_within : (cfg : Configuration) {n : ℕ} → config_ok cfg ≡ true → n ≡ events cfg → RowsWithin cfg n
unfolding config_ok
rows_within cfg ok q =
    let exactly : length cfg ≡ in_front + row_width * events cfg =
    eqb-true (length cfg) (in_front + row_width * events cfg) (part _ ok 4) in
    record { most = omega (arith, q, (config_tells cfg ok).n_most); within = omega (arith, q, exactly) }
