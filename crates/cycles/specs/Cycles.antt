-- The start and the stop of a cycle: their refusals, and what an accepted stop may count on. Assumes nothing.
use Rattle.std.specs.Prelude.{◌≡◌, Bool, true, false, List, [], ◌∷◌, ℕ, ◌<◌}
use Rattle.manual.specs.Configuration.{Configuration, config_ok}
use Rattle.manual.specs.State.{State, with_cycle}
use Rattle.manual.specs.WellFormed.{well_formed}
use Rattle.manual.specs.OneEvent.{stops, for_those}
use Rattle.manual.specs.Answers.{Rule, ◌if◌}
use Rattle.manual.specs.Calls.{of_cycle}

-- "start and stop 4, 5": 4 where there is no such cycle, then 5 where it is not in the state that the call asks for
abbrev pub four_five : Bool → Bool → List Rule
four_five no_such wrong = (4 if no_such) ∷ (5 if wrong) ∷ []

-- an accepted configuration, a well-formed state, one of the four cycles
pub record MayStop (cfg : Configuration) (s : State) (cycle : ℕ) : Type 0 where
  pub configured : config_ok cfg ≡ true
  pub formed : well_formed cfg s ≡ true
  pub is_cycle : cycle < 4

-- "Stop, for its events: (a) … (b) … (c) D = 0.", and the cycle no longer runs
abbrev pub stopped : Configuration → ℕ → State → State
stopped cfg c s = with_cycle c false (for_those cfg (of_cycle cfg c) (stops cfg) s)
