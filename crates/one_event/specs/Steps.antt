-- What each step of "Status byte" and "Memory" on one event leaves, and what memory did at it. Assumes nothing.
use Rattle.std.specs.Prelude.{List, ℕ, pos}
use Rattle.history.specs.History.{stop, clear, step}
use Rattle.manual.specs.declared.StoreAnswer.{StoreAnswer}
use Rattle.manual.specs.declared.Verdict.{Verdict}
use Rattle.manual.specs.Configuration.{Configuration, limits_of}
use Rattle.manual.specs.State.{State, opened, stored, stored_at, with_stored, with_d}
use Rattle.manual.specs.Answers.{Outcome, alone}
use Rattle.manual.specs.Debouncing.{Debounced}
use Rattle.manual.specs.OneEvent.{happens, stored_for, memory_told, fails, fails_did, qualifies, qualifies_did}
use Rattle.manual.specs.Calls.{applied, applied_did, report_done, report_did, ticks, ticks_did}

-- what a step on one event leaves (a state, or a report's outcome), and what memory did at it
pub record Stepped (A : Type 0) : Type 0 where
  pub left : A
  pub did : StoreAnswer

abbrev pub stepped : {A : Type 0} → A → StoreAnswer → Stepped A
stepped x did = record { left = x; did = did }

-- the records with event e's after parts (a) and (b) of a stop
abbrev pub record_stopped : Configuration → ℕ → List ℕ → List ℕ
record_stopped cfg e m = with_stored e (stored (step (limits_of cfg e) stop (opened (stored_at e m)))) m

-- "status 50h, K = h = g = D = 0": what a clear does to event e beside memory
abbrev pub resetting : Configuration → ℕ → State → State
resetting cfg e s = with_d e (pos 0) (happens cfg clear e s)

module _ (cfg : Configuration) (frame : List ℕ) (e : ℕ) where
  -- "Fresh failure of e with the lent frame"
  abbrev pub tells_memory : State → Stepped State
  tells_memory s = stepped (memory_told cfg frame e s) (stored_for cfg frame e s).did

  -- "Failed: … If bit 0 was clear before, it is a fresh failure and memory is told, last."
  abbrev pub failing : State → Stepped State
  failing s = stepped (fails cfg frame e s) (fails_did cfg frame e s)

  -- "A verdict other than none is a qualified result."
  abbrev pub qualifying : Verdict → State → Stepped State
  qualifying verdict s = stepped (qualifies cfg frame e verdict s) (qualifies_did cfg frame e verdict s)

  -- the new D, then what the verdict does
  abbrev pub applying : Debounced → State → Stepped State
  applying d s = stepped (applied cfg frame e d s) (applied_did cfg frame e d s)

  -- an event's part of a tick
  abbrev pub ticking : ℕ → State → Stepped State
  ticking ms s = stepped (ticks cfg ms frame e s) (ticks_did cfg ms frame e s)

  -- an accepted report
  abbrev pub reporting : ℕ → State → Stepped Outcome
  reporting code s = stepped (report_done cfg e code frame alone s) (report_did cfg e code frame s)
