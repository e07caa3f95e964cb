-- How a call is judged: whether it goes on, or with which number it stops. Assumes nothing.
use Rattle.std.specs.Prelude.{Bool, not, List, ◌∷◌, ℕ, Result, Ok, Err, ⊤}
use Rattle.manual.specs.Answers.{Rule, ◌if◌, number_of}
use Rattle.manual.specs.declared.Refusal.{Refusal}

-- the number of a check: 0 where the call goes on
abbrev pub check_number : Result ⊤ Refusal → ℕ
check_number (Ok t) = 0
check_number (Err r) = number_of r

-- refusals 2 and 3, each where its judgement fails, before a call's own
abbrev pub two_three : Bool → Bool → List Rule → List Rule
two_three config-ok state-ok rules = (2 if not config-ok) ∷ (3 if not state-ok) ∷ rules
