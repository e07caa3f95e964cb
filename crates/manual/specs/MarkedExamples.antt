-- Document 01, "Marked examples": E1 to E12 as one table of stories, run from the fresh state by the outcomes of the
-- calls. Assumes nothing.
use Rattle.std.specs.Prelude.{true, cond, List, [], ◌∷◌, ℕ, ◌*◌, replicate, ℤ, pos, negsuc}
use Rattle.manual.specs.declared.Verdict.{Verdict}
use Rattle.manual.specs.declared.Verdict.TheVariants.{None, Passed, Failed}
use Rattle.manual.specs.Configuration.{Configuration, events, places, entry_frames}
use Rattle.manual.specs.State.{State, record_width, stored_at, status_byte, D, all_stopped}
use Rattle.manual.specs.Memory.{memory_length}
use Rattle.manual.specs.Debouncing.{ticked}
use Rattle.manual.specs.Conditions.{all_present}
use Rattle.manual.specs.Calls.{report, tick_moves}
use Rattle.manual.specs.Answers.{Beside, lent_counts}
use Rattle.manual.specs.Counts.{no_counts}
use Rattle.manual.specs.Sequences.{Call, Fresh, Report, Tick, Start, Stop, Clear, Read, Restore, Request, outcome}

-- no room is lent to these calls, and the five counts of document 02's W7 at 0
abbrev pub zeroed : Beside
zeroed = lent_counts no_counts

-- what is seen after a call of event 0, the only one: the call's answer and verdict, status, D, g, and the memory of
-- one place with no frame
pub record Seen : Type 0 where
  pub answer : ℕ
  pub verdict : Verdict
  pub status : ℕ
  pub number : ℤ
  pub ageing : ℕ
  pub memory : List ℕ

-- an example's number, calls with the oldest first, and what is seen after the last of them
pub record Row : Type 0 where
  pub example : ℕ
  pub calls : List Call
  pub seen : Seen

abbrev pub E : ℕ → List Call → Seen → Row
E example calls seen = record { example = example; calls = calls; seen = seen }

-- rows that follow each other from the fresh state under one configuration
pub record Story : Type 0 where
  pub config : Configuration
  pub rows : List Row

-- the verdict that a call gives event 0: "Each accepted report gives a verdict", which it answers; a tick answers none,
-- so what is seen of it is the verdict that debouncing gives
abbrev pub verdict_of : Configuration → Call → State → Verdict
verdict_of cfg Fresh s = None
verdict_of cfg (Report k code frame present) s = (report cfg k code frame present zeroed s).verdict
verdict_of cfg (Tick ms frame present) s =
    cond (tick_moves cfg present s.board 0) (ticked cfg 0 ms (D s 0)).verdict None
verdict_of cfg (Start c) s = None
verdict_of cfg (Stop c) s = None
verdict_of cfg (Clear code) s = None
verdict_of cfg (Read q) s = None
verdict_of cfg (Restore image) s = None
verdict_of cfg (Request bytes) s = None

abbrev pub see : ℕ → Verdict → State → Seen
see answer verdict s = record {
  answer = answer;
  verdict = verdict;
  status = status_byte s 0;
  number = D s 0;
  ageing = (stored_at 0 s.records).g;
  memory = s.memory;
}

-- a state, and what is seen of the call that led to it
pub record After : Type 0 where
  pub state : State
  pub seen : Seen

module _ (cfg : Configuration) where
  abbrev pub after_call : Call → State → After
  after_call c s =
      let o = outcome cfg c zeroed s in
      record { state = o.state; seen = see o.answer (verdict_of cfg c s) o.state }

  abbrev pub after_calls : List Call → After → After
  after_calls [] a = a
  after_calls (c ∷ cs) a = after_calls cs (after_call c a.state)

  -- the rows with what is seen when their calls are made
  abbrev pub replayed_rows : List Row → After → List Row
  replayed_rows [] a = []
  replayed_rows (r ∷ rs) a =
      let next = after_calls r.calls a in E r.example r.calls next.seen ∷ replayed_rows rs next

-- blocks of the right lengths, to make a fresh state in
abbrev pub blank : Configuration → State
blank cfg = record {
  records = replicate (record_width * events cfg) 7;
  debounce = replicate (events cfg) (pos 7);
  memory = replicate (memory_length (places cfg) (entry_frames cfg)) 7;
  board = record { running = all_stopped; overflow = true };
}

abbrev pub after_fresh : Configuration → After
after_fresh cfg = after_call cfg Fresh (blank cfg)

abbrev pub replayed : List Story → List Story
replayed [] = []
replayed (t ∷ ts) =
    record { config = t.config; rows = replayed_rows t.config t.rows (after_fresh t.config) } ∷ replayed ts

-- ---- the table

-- the call answers 0, and then: verdict, status, D, g, memory
abbrev pub shows : Verdict → ℕ → ℤ → ℕ → List ℕ → Seen
shows verdict status number ageing memory = record {
  answer = 0;
  verdict = verdict;
  status = status;
  number = number;
  ageing = ageing;
  memory = memory;
}

abbrev pub no_entry : List ℕ
no_entry = 0 ∷ 0 ∷ 0 ∷ 0 ∷ []

abbrev pub one_entry : List ℕ
one_entry = 1 ∷ 0 ∷ 0 ∷ 1 ∷ []

-- one event, one place, no frame: kind, P, Q, up, down, jumps; "C 2, H 1, A 3, indicator 1"; no condition is needed
abbrev pub one_event : ℕ → ℤ → ℤ → ℕ → ℕ → ℕ → Configuration
one_event kind p q up down jumps =
    pos 1 ∷ pos 1 ∷ pos 0 ∷ pos 1 ∷ pos 1 ∷ pos 0 ∷ pos kind ∷ p ∷ q ∷ pos up ∷ pos down ∷ pos jumps ∷ pos 2 ∷ pos 1
    ∷ pos 3 ∷ pos 1 ∷ pos 0 ∷ []

-- "Event: kind 1, P −4, Q 4, up 2, down 1, jumps 0"
abbrev pub marked : Configuration
marked = one_event 1 (negsuc 3) (pos 4) 2 1 0

abbrev pub jumping : Configuration
jumping = one_event 1 (negsuc 3) (pos 4) 2 1 1

abbrev pub timed : Configuration
timed = one_event 2 (negsuc 499) (pos 500) 0 0 0

abbrev pub report_passed : Call
report_passed = Report 0 0 [] all_present

abbrev pub report_failed : Call
report_failed = Report 0 1 [] all_present

abbrev pub report_pre_passed : Call
report_pre_passed = Report 0 2 [] all_present

abbrev pub report_pre_failed : Call
report_pre_failed = Report 0 3 [] all_present

-- "Event: kind 1, P −4, Q 4, up 2, down 1, jumps 0, C 2, H 1, A 3, indicator 1. E1 start 50h; E2 pre-failed D 2, 50h;
-- E3 pre-failed D 4, 27h; E4 stop 27h, D 0; E5 start 65h; E6 failed AFh; E7 passed AEh; E8 stop, start ECh; E9 passed,
-- stop 28h, g 1; E10 start, stop, start, stop with no report". Document 02, W2: "E10 now ends in 68h with the entry
-- kept and g still 1."
unfoldable pub e1_to_e10 : List Row
e1_to_e10 =
    E 1 (Start 0 ∷ []) (shows None 0x50 (pos 0) 0 no_entry)
    ∷ E 2 (report_pre_failed ∷ []) (shows None 0x50 (pos 2) 0 no_entry)
    ∷ E 3 (report_pre_failed ∷ []) (shows Failed 0x27 (pos 4) 0 one_entry)
    ∷ E 4 (Stop 0 ∷ []) (shows None 0x27 (pos 0) 0 one_entry)
    ∷ E 5 (Start 0 ∷ []) (shows None 0x65 (pos 0) 0 one_entry)
    ∷ E 6 (report_failed ∷ []) (shows Failed 0xAF (pos 4) 0 one_entry)
    ∷ E 7 (report_passed ∷ []) (shows Passed 0xAE (negsuc 3) 0 one_entry)
    ∷ E 8 (Stop 0 ∷ Start 0 ∷ []) (shows None 0xEC (pos 0) 0 one_entry)
    ∷ E 9 (report_passed ∷ Stop 0 ∷ []) (shows None 0x28 (pos 0) 1 one_entry)
    ∷ E 10 (Start 0 ∷ Stop 0 ∷ Start 0 ∷ Stop 0 ∷ []) (shows None 0x68 (pos 0) 1 one_entry)
    ∷ []

-- "E11: D −3, pre-failed: −1; with jump up 2."
unfoldable pub e11 : ℤ → List Row
e11 number =
    E 11 (Start 0 ∷ report_pre_passed ∷ report_pre_passed ∷ report_pre_passed ∷ []) (shows None 0x50 (negsuc 2) 0 no_entry)
    ∷ E 11 (report_pre_failed ∷ []) (shows None 0x50 number 0 no_entry)
    ∷ []

-- "E12: kind 2, Q 500: pre-failed D 1, tick 499 D 500 no verdict, tick 1 D 501 failed."
unfoldable pub e12 : List Row
e12 =
    E 12 (Start 0 ∷ report_pre_failed ∷ []) (shows None 0x50 (pos 1) 0 no_entry)
    ∷ E 12 (Tick 499 [] all_present ∷ []) (shows None 0x50 (pos 500) 0 no_entry)
    ∷ E 12 (Tick 1 [] all_present ∷ []) (shows Failed 0x27 (pos 501) 0 one_entry)
    ∷ []

unfoldable pub table : List Story
table =
    record { config = marked; rows = e1_to_e10 }
    ∷ record { config = marked; rows = e11 (negsuc 0) }
    ∷ record { config = jumping; rows = e11 (pos 2) }
    ∷ record { config = timed; rows = e12 }
    ∷ []
