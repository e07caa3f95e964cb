-- Document 02, W10, "A page of untested signals": when an event is live, red or grey, read off its history alone.
-- Assumes nothing.
use Rattle.std.specs.Prelude.{◌≡◌, ◌⊎◌, Bool, true, false, List}
use Rattle.history.specs.Words.{any_of, since, last_of}
use Rattle.history.specs.History.{start, clear, History, Moment, moments, is, is_passed, is_failed, is_result}
use Rattle.history.specs.Legal.{running}

-- "in the present run after any clear": of what happened since the last start, what happened since the last clear
unfoldable pub in_present_run : History → List Moment
in_present_run l = since (is clear) (since (is start) (moments l))

-- "a qualified result lies in the present run after any clear"
abbrev pub is_tested : History → Bool
is_tested l = any_of is_result (in_present_run l)

-- "its cycle runs, a qualified result lies in the present run after any clear, and its last one is" such a result
pub record TestedWith (last : Moment → Bool) (l : History) : Type 0 where
  pub cycle_runs : running l ≡ true
  pub result_lies : is_tested l ≡ true
  pub last_is : last_of is_result last (in_present_run l) ≡ true

-- "an event is live exactly when its cycle runs, a qualified result lies in the present run after any clear, and its
-- last one is passed"
abbrev pub IsLive : History → Type 0
IsLive = TestedWith is_passed

-- it is red where that last one is failed
abbrev pub IsRed : History → Type 0
IsRed = TestedWith is_failed

-- it is grey in any other case: its cycle is stopped, or no qualified result lies there
abbrev pub IsGrey : History → Type 0
IsGrey l = (running l ≡ false) ⊎ (is_tested l ≡ false)
