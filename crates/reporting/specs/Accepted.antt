-- What report and tick may count on, and what an accepted tick does. Assumes nothing.
use Rattle.std.specs.Prelude.{◌≡◌, true, cond, List, ℕ, ◌≤◌, ◌<◌, length}
use Rattle.manual.specs.declared.Board.{Board}
use Rattle.manual.specs.declared.StoreAnswer.TheVariants.{Untold}
use Rattle.manual.specs.Configuration.{Configuration, events, frame_bytes, config_ok}
use Rattle.manual.specs.State.{State}
use Rattle.manual.specs.WellFormed.{well_formed}
use Rattle.manual.specs.OneEvent.{for_those}
use Rattle.manual.specs.Calls.{tick_moves, ticks}
use Rattle.counts.specs.Near.{AreFive}
use Rattle.one_event.specs.Steps.{Stepped, stepped, ticking}

-- none of "2, 3" applies
pub record Begun (cfg : Configuration) (s : State) (counts : List ℕ) : Type 0 where
  pub configured : config_ok cfg ≡ true
  pub formed : well_formed cfg s ≡ true
  pub five : AreFive counts

-- nor "4", nor "9" of a report
pub record MayReport (cfg : Configuration) (s : State) (e : ℕ) (frame : List ℕ) : Type 0 where
  pub configured : config_ok cfg ≡ true
  pub formed : well_formed cfg s ≡ true
  pub below : e < events cfg
  pub frame_fits : length frame ≡ frame_bytes cfg

-- nor "1, 9" of a tick
pub record MayTick (cfg : Configuration) (s : State) (ms : ℕ) (frame : List ℕ) : Type 0 where
  pub configured : config_ok cfg ≡ true
  pub formed : well_formed cfg s ≡ true
  pub short : ms ≤ 60000
  pub frame_fits : length frame ≡ frame_bytes cfg

module _ (cfg : Configuration) (ms : ℕ) (frame : List ℕ) (present : ℕ) where
  -- event e's part of a tick that began with these cycles running
  abbrev pub tick_part : Board → ℕ → State → Stepped State
  tick_part b e s = cond (tick_moves cfg present b e) (ticking cfg frame e ms s) (stepped s Untold)

  -- all of them, "events in rising number"
  abbrev pub ticked : State → State
  ticked s = for_those cfg (tick_moves cfg present s.board) (ticks cfg ms frame) s
