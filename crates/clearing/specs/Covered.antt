-- What a clear does to one event. Assumes nothing.
use Rattle.std.specs.Prelude.{◌≡◌, true, cond, ℕ}
use Rattle.manual.specs.Configuration.{Configuration, config_ok}
use Rattle.manual.specs.State.{State}
use Rattle.manual.specs.WellFormed.{well_formed}
use Rattle.manual.specs.OneEvent.{clears}
use Rattle.manual.specs.Calls.{covers}

-- what a clear may count on
abbrev pub MayClear : Configuration → State → Type 0
MayClear cfg s = (config_ok cfg ≡ true) × (well_formed cfg s ≡ true)

-- "each covered event gets status 50h, K = h = g = D = 0, its entry leaves"; any other stays
abbrev pub clears_covered : Configuration → ℕ → ℕ → State → State
clears_covered cfg code e s = cond (covers cfg code e) (clears cfg e s) s
