-- Document 01, "Memory", for a whole call: what can become of an entry that memory held before the call, and where an
-- entry that it holds afterwards can come from. Displacement.antt says it of one store. Assumes nothing.
use Rattle.std.specs.Prelude.{◌≡◌, Bool, true, ◌&&◌, cond, ℕ, suc, ◌<◌, min}
use mathlib.Core.List.{List, Memᴰ}
use Rattle.history.specs.StatusByte.{fresh_failure, ages_at_stop}
use Rattle.history.specs.History.{failed}
use Rattle.manual.specs.declared.Verdict.TheVariants.{Failed}
use Rattle.manual.specs.Words.{for_below, three_at}
use Rattle.manual.specs.Configuration.{Configuration, events, places, priority_of, limits_of}
use Rattle.manual.specs.State.{State, record_of, D}
use Rattle.manual.specs.Debouncing.{reported, ticked}
use Rattle.manual.specs.Memory.{Entry, event_of, entry_of, payload_of, renewed_payload}
use Rattle.manual.specs.WellFormed.{entries}
use Rattle.manual.specs.Answers.{Beside}
use Rattle.manual.specs.OneEvent.{happens, is_quiet}
use Rattle.manual.specs.Displacement.{TakenOut}
use Rattle.manual.specs.Calls.{report, tick_moves, ticks, tick, of_cycle, stop_cycle, covers, clear_code}
use Rattle.manual.specs.Diagnostics.{asks_clear, request_reply}
use Rattle.manual.specs.Sequences.{Call, Report, Tick, Stop, Clear, Request}

-- "count up by one, at most 255; frame replaced"; document 02, W6: "A repeat replaces only the latest."
abbrev pub renewed_entry : List ℕ → Entry → Entry
renewed_entry frame x = entry_of (event_of x) (min 255 (suc x.count)) (renewed_payload x.payload frame)

module _ (cfg : Configuration) where
  -- "Tick …, events in rising number": the state when the events below k have had their part of a tick
  abbrev pub ticked_below : ℕ → List ℕ → ℕ → State → ℕ → State
  ticked_below ms frame present s k =
      for_below k (λ e u. cond (tick_moves cfg present s.board e) (ticks cfg ms frame e u) u) s

  -- "If bit 0 was clear before, it is a fresh failure and memory is told": in an accepted call on state s, with b lent
  -- beside it, event k fails afresh, with this frame, in the state that the parts of the call before its own have left
  pub data FailsAfresh (b : Beside) (s : State) : Call → ℕ → List ℕ → State → Type 0 where
    in_report : (k code : ℕ) (frame : List ℕ) (present : ℕ) → (report cfg k code frame present b s).answer ≡ 0
        → (reported cfg k code (D s k)).verdict ≡ Failed → fresh_failure (record_of s k) ≡ true
        → FailsAfresh b s (Report k code frame present) k frame s
    in_tick : (ms : ℕ) (frame : List ℕ) (present k : ℕ) → (tick cfg ms frame present b s).answer ≡ 0 → k < events cfg
        → tick_moves cfg present s.board k ≡ true
        → (ticked cfg k ms (D (ticked_below ms frame present s k) k)).verdict ≡ Failed
        → fresh_failure (record_of (ticked_below ms frame present s k) k) ≡ true
        → FailsAfresh b s (Tick ms frame present) k frame (ticked_below ms frame present s k)

  -- v is the victim that rule 3 names where event k fails afresh in state u: "memory is told, last", so k has bit 0 set
  -- by then
  abbrev pub IsVictim : ℕ → List ℕ → State → Entry → Type 0
  IsVictim k frame u v =
      TakenOut (places cfg) (priority_of cfg) (is_quiet cfg (happens cfg failed k u)) k frame (entries cfg u) v

  -- "Stop, for its events: … at A the event ages": event k is one of those where cycle c stops
  abbrev pub ages_in : ℕ → State → ℕ → Bool
  ages_in c s k = of_cycle cfg c k && ages_at_stop (limits_of cfg k) (record_of s k)

  -- "at A the event ages: …, its entry leaves memory": event k ages at an accepted stop
  pub data Ages (b : Beside) (s : State) : Call → ℕ → Type 0 where
    at_stop : (c k : ℕ) → (stop_cycle cfg c b s).answer ≡ 0 → ages_in c s k ≡ true → Ages b s (Stop c) k

  -- "Clear …: each covered event …, its entry leaves": event k is covered by an accepted clear or by service 14
  pub data Clears (b : Beside) (s : State) : Call → ℕ → Type 0 where
    by_clear : (code k : ℕ) → (clear_code cfg code b s).answer ≡ 0 → covers cfg code k ≡ true → Clears b s (Clear code) k
    by_request : (bytes : List ℕ) (k : ℕ) → (request_reply cfg bytes b s).answer ≡ 0 → asks_clear cfg bytes ≡ true
        → covers cfg (three_at 1 bytes) k ≡ true → Clears b s (Request bytes) k

  -- what can become of an entry in call c on state s, with b lent beside it, where these are the entries afterwards
  pub data Fate (b : Beside) (s : State) (c : Call) (after : List Entry) : Entry → Type 0 where
    -- it is there as it was
    stays : {x : Entry} → Memᴰ x after → Fate b s c after x
    -- its event fails afresh: it is renewed, and this becomes of the renewed entry
    is_renewed : {x : Entry} {frame : List ℕ} {u : State} → FailsAfresh b s c (event_of x) frame u
        → Fate b s c after (renewed_entry frame x) → Fate b s c after x
    -- another event fails afresh, and it is the victim that rule 3 names at that moment
    is_pushed_out : {x : Entry} {k : ℕ} {frame : List ℕ} {u : State} → FailsAfresh b s c k frame u
        → IsVictim k frame u x → Fate b s c after x
    -- its event ages at this stop
    is_aged : {x : Entry} → Ages b s c (event_of x) → Fate b s c after x
    -- its event is cleared
    is_cleared : {x : Entry} → Clears b s c (event_of x) → Fate b s c after x

  -- where an entry can come from that stands in memory after call c on state s
  pub data Origin (b : Beside) (s : State) (c : Call) : Entry → Type 0 where
    -- it was there before
    was_there : {x : Entry} → Memᴰ x (entries cfg s) → Origin b s c x
    -- its event failed afresh and had an entry: that one, renewed
    renewed_from : {x : Entry} {frame : List ℕ} {u : State} → FailsAfresh b s c (event_of x) frame u → Origin b s c x
        → Origin b s c (renewed_entry frame x)
    -- its event failed afresh and had none: "appended with count 1"
    came : {k : ℕ} {frame : List ℕ} {u : State} → FailsAfresh b s c k frame u
        → Origin b s c (entry_of k 1 (payload_of frame))
