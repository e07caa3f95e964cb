-- What is written reads back: the decimal digits of a number below 1000 are a number of the input, without a minus, of
-- that value.
use mathlib.Core.Path.{◌≡◌, refl}
use mathlib.Core.Bool.{Bool, true, false, not}
use mathlib.Core.List.{List, [], ◌∷◌}
use Prim.Native.Nat.{ℕ, ◌<◌}
use lib.IntN.{pos}
use borrow.Author.Tests.{not-true}
use Rattle.history.specs.Words.{holds}
use Rattle.history.proofs.WordsLaws.{part}
use Rattle.manual.specs.Words.{all_below, eq_z}
use Rattle.manual.proofs.WordsLaws.{all_below_at, eq_z_true}
use Rattle.transcript.specs.Text.{one_to_ten_digits, is_magnitude, worth, has_minus, with_sign, is_number, value_of}
use Rattle.transcript.specs.Line.{decimal}

abbrev clauses : ℕ → List Bool
clauses n = is_number (decimal n) ∷ not (has_minus (decimal n)) ∷ eq_z (value_of (decimal n)) (pos n) ∷ []

all_hold : all_below 1000 (λ n. holds (clauses n)) ≡ true
unfolding holds all_below decimal one_to_ten_digits is_magnitude worth with_sign is_number value_of
all_hold = refl

module _ (n : ℕ) (h : n < 1000) where
  clause : holds (clauses n) ≡ true
  clause = all_below_at 1000 (λ k. holds (clauses k)) all_hold n h

  pub written_number : is_number (decimal n) ≡ true
  written_number = part (clauses n) clause 0

  pub written_no_minus : has_minus (decimal n) ≡ false
  written_no_minus = not-true (has_minus (decimal n)) (part (clauses n) clause 1)

  pub written_value : value_of (decimal n) ≡ pos n
  written_value = eq_z_true (value_of (decimal n)) (pos n) (part (clauses n) clause 2)
