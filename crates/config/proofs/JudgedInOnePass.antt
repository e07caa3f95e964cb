-- A configuration is judged by the numbers in front, then the length, then one pass over the rows.
use mathlib.Core.Path.{◌≡◌, sym, ◌∙◌}
use mathlib.Core.Bool.{Bool, true, ◌&&◌}
use mathlib.Core.List.{List, [], ◌∷◌}
use Prim.Native.Nat.{◌+◌, ◌*◌, ◌≤◌}
use native.Mathlib.Omega.{arith}
use lib.Dec.{leb, eqb}
use lib.IntN.{ℤ, pos, negsuc}
use lib.ListN.{length}
use lib.Signed.{le_z}
use borrow.Author.Tests.{leb-true}
use Rattle.history.specs.Words.{holds}
use Rattle.history.proofs.WordsLaws.{and_right, and_true, and_assoc, part}
use Rattle.manual.specs.Words.{all_below, between, nat_of}
use Rattle.manual.specs.Configuration.{Configuration, number_at, in_front, row_width, events, config_ok}
use Rattle.manual.proofs.WordsLaws.{between_to}
use Rattle.config.specs.Rows.{row_fits}
use Rattle.config.proofs.RowsLaws.{all_fit}

module _ (cfg : Configuration) where
  abbrev pub front : List Bool
  front =
      leb in_front (length cfg)
      ∷ between (pos 1) (pos 512) (number_at cfg 0)
      ∷ between (pos 1) (pos 64) (number_at cfg 1)
      ∷ between (pos 0) (pos 32) (number_at cfg 2)
      ∷ []

  abbrev pub length_fits : Bool
  length_fits = eqb (length cfg) (in_front + row_width * events cfg)

  pub judged_in_one_pass : config_ok cfg ≡ holds front && (length_fits && all_below (events cfg) (row_fits cfg))
  unfolding config_ok holds
  judged_in_one_pass = rw (all_fit cfg (events cfg)) (simp (and_assoc, and_true))

  -- so 3 + 14n may be computed
  pub n_most : holds front ≡ true → events cfg ≤ 512
  unfolding events
  n_most t = most (number_at cfg 0) (between_to (pos 1) (pos 512) (number_at cfg 0) (part front t 1))
    where
      most : (z : ℤ) → le_z z (pos 512) ≡ true → nat_of z ≤ 512
      most (pos n) t = leb-true n 512 t
      most (negsuc n) t = omega arith

  pub rows_fit : config_ok cfg ≡ true → all_below (events cfg) (row_fits cfg) ≡ true
  rows_fit ok = and_right length_fits _ (and_right (holds front) _ (sym judged_in_one_pass ∙ ok))
