-- Document 01, "Status byte" and "Memory": what happens to one event, in the lent blocks. Assumes nothing.
use Rattle.std.specs.Prelude.{Bool, not, ◌&&◌, ◌||◌, cond, List, ℕ, pos}
use Rattle.history.specs.Words.{any_of}
use Rattle.history.specs.StatusByte.{test_failed, fresh_failure, ages_at_stop}
use Rattle.history.specs.History.{Token, passed, failed, stop, clear, step}
use Rattle.manual.specs.declared.Verdict.{Verdict}
use Rattle.manual.specs.declared.Verdict.TheVariants.{None, Passed, Failed}
use Rattle.manual.specs.declared.StoreAnswer.{StoreAnswer}
use Rattle.manual.specs.declared.StoreAnswer.TheVariants.{Untold}
use Rattle.manual.specs.Words.{for_below}
use Rattle.manual.specs.Configuration.{Configuration, events, places, entry_frames, priority_of, limits_of}
use Rattle.manual.specs.State.{State, record_of, with_record, with_d, with_memory, with_overflow}
use Rattle.manual.specs.Memory.{Entry, memory_of, is_of, without, Kept, is_lost, store}
use Rattle.manual.specs.WellFormed.{entries}

module _ (cfg : Configuration) where
  -- the event's record after the thing that happened: the step of "Status byte"
  unfoldable pub happens : Token → ℕ → State → State
  happens t e s = with_record e (step (limits_of cfg e) t (record_of s e)) s

  abbrev pub with_entries : List Entry → State → State
  with_entries xs s = with_memory (memory_of (places cfg) (entry_frames cfg) xs) s

  -- the event has an entry; it has one before, and none after
  abbrev pub has_entry : State → ℕ → Bool
  has_entry s e = any_of (is_of e) (entries cfg s)

  abbrev pub loses_entry : State → State → ℕ → Bool
  loses_entry before after e = has_entry before e && not (has_entry after e)

  -- "its entry leaves memory"
  unfoldable pub entry_leaves : ℕ → State → State
  entry_leaves e s = with_entries (without e (entries cfg s)) s

  -- whether the event has bit 0 clear
  abbrev pub is_quiet : State → ℕ → Bool
  is_quiet s e = not ((record_of s e).status test_failed)

  unfoldable pub keeps : Kept → State → State
  keeps k s = with_overflow (s.board.overflow || is_lost k.did) (with_entries k.entries s)

  -- "Fresh failure of e with the lent frame"
  abbrev pub stored_for : List ℕ → ℕ → State → Kept
  stored_for frame e s = store (places cfg) (priority_of cfg) (is_quiet s) e frame (entries cfg s)

  unfoldable pub memory_told : List ℕ → ℕ → State → State
  memory_told frame e s = keeps (stored_for frame e s) s

  -- "Failed: … If bit 0 was clear before, it is a fresh failure and memory is told, last."
  unfoldable pub fails : List ℕ → ℕ → State → State
  fails frame e s = cond (fresh_failure (record_of s e)) (memory_told frame e (happens failed e s)) (happens failed e s)

  -- what memory did at it
  unfoldable pub fails_did : List ℕ → ℕ → State → StoreAnswer
  fails_did frame e s = cond (fresh_failure (record_of s e)) (stored_for frame e (happens failed e s)).did Untold

  -- "A verdict other than none is a qualified result.": what the verdict does to the event
  abbrev pub qualifies : List ℕ → ℕ → Verdict → State → State
  qualifies frame e None s = s
  qualifies frame e Passed s = happens passed e s
  qualifies frame e Failed s = fails frame e s

  abbrev pub qualifies_did : List ℕ → ℕ → Verdict → State → StoreAnswer
  qualifies_did frame e None s = Untold
  qualifies_did frame e Passed s = Untold
  qualifies_did frame e Failed s = fails_did frame e s

  -- "Stop, for its events: (a) … (b) … at A the event ages: …, its entry leaves memory. (c) D = 0."
  unfoldable pub stops : ℕ → State → State
  stops e s =
      with_d e (pos 0)
      (cond (ages_at_stop (limits_of cfg e) (record_of s e)) (entry_leaves e (happens stop e s)) (happens stop e s))

  -- "each covered event gets status 50h, K = h = g = D = 0, its entry leaves"
  unfoldable pub clears : ℕ → State → State
  clears e s = with_d e (pos 0) (entry_leaves e (happens clear e s))

  -- done for those events that pass a test, in rising number
  unfoldable pub for_those : (ℕ → Bool) → (ℕ → State → State) → State → State
  for_those p f s = for_below (events cfg) (λ e s. cond (p e) (f e s) s) s
