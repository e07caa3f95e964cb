-- Laws of specs/Sequences.antt: what a call does, and what every call keeps of a relation between a state and the
-- events' histories.
use mathlib.Core.Path.{◌≡◌, refl, sym, ap, subst}
use mathlib.Core.Logic.{◌≢◌, ◌⊎◌, inl, inr}
use mathlib.Core.Bool.{Bool, true, false, not, ◌&&◌, cond}
use mathlib.Core.List.{List, [], ◌∷◌, ◌++◌}
use Prim.Native.Nat.{ℕ}
use lib.Dec.{eqb}
use lib.ListN.{length, get_or}
use borrow.Author.Tests.{eqb-true, eqb-false, ne_eqb, not-true}
use Rattle.history.specs.History.{start, clear, History}
use Rattle.history.proofs.WordsLaws.{and_right, and_false}
use Rattle.manual.specs.Words.{three_at}
use Rattle.manual.specs.Configuration.{Configuration}
use Rattle.manual.specs.State.{State, D, with_cycle}
use Rattle.manual.specs.Answers.{Beside, Outcome, refused, Rule, first_that_applies, judged}
use Rattle.manual.specs.Conditions.{enabled}
use Rattle.manual.specs.OneEvent.{happens, stops, for_those}
use Rattle.manual.specs.Counter.{read_counter}
use Rattle.manual.specs.Missing.{read_missing}
use Rattle.manual.specs.Calls.{fresh, report_rules, applied, debounced_by, report, tick_rules, time_runs, tick_moves}
use Rattle.manual.specs.Calls.{ticks, tick, of_cycle, start_rules, start_cycle, stop_rules, stop_cycle, covers}
use Rattle.manual.specs.Calls.{unknown_code}
use Rattle.manual.specs.Calls.{cleared, clear_log, clear_rules, clear_code, read_status, read_frame}
use Rattle.manual.specs.Counts.{carries_past}
use Rattle.manual.specs.Untested.{read_table, read_paint, list_grey}
use Rattle.manual.specs.Image.{save, restore}
use Rattle.manual.specs.Diagnostics.{positive, negative, Served, served, service14}
use Rattle.manual.specs.Diagnostics.{asks_clear, served_by, sent, request_rules, request_reply}
use Rattle.manual.specs.Sequences.{Query, ReadStatus, ReadFrame, ReadCounter, ReadMissing, ReadTable, ReadPaint}
use Rattle.manual.specs.Sequences.{ListGrey, Save}
use Rattle.manual.specs.Sequences.{Call, Fresh, Report, Tick, Start, Stop}
use Rattle.manual.specs.Sequences.{Clear, Read, Restore, Request, answer_to, only_if, outcome, gives}
use Rattle.manual.specs.Sequences.{tokens, tokens_at, carries_on}
use Rattle.manual.proofs.WordsLaws.{clash, by}
use Rattle.manual.proofs.AnswersLaws.{none_applies, goes_through}

-- a history of each event
abbrev pub Histories : Type 0
Histories = ℕ → History

-- ---- what a call does

-- refused, with the state as it was, or done, with P of the state that it leaves
abbrev pub Either : (State → Type 0) → State → Outcome → Type 0
Either P s o = ((o.answer ≢ 0) × (o.state ≡ s)) ⊎ ((o.answer ≡ 0) × P o.state)

judged_either : (P : State → Type 0) (rules : List Rule) (b : Beside) (s : State) (o : Outcome) → o.answer ≡ 0
    → (first_that_applies rules ≡ 0 → P o.state) → Either P s (judged rules b s o)
unfolding judged
judged_either P rules b s o z f = go (eqb (first_that_applies rules) 0) refl
  where
    go : (t : Bool) → eqb (first_that_applies rules) 0 ≡ t → Either P s (cond t o (refused (first_that_applies rules) b s))
    go true e = inr (z, f (eqb-true (first_that_applies rules) 0 e))
    go false e = inl (eqb-false (first_that_applies rules) 0 e, refl)

judged_leaves : (rules : List Rule) (b : Beside) (s : State) (o : Outcome) → o.state ≡ s
    → (judged rules b s o).state ≡ s
unfolding judged
judged_leaves rules b s o q = by (eqb (first_that_applies rules) 0) (λ (r : Outcome). r.state ≡ s) (λ e. q) (λ e. refl)

-- a fresh or a restore that goes on was refused
not_accepted : {A : Type 0} (rules : List Rule) (b : Beside) (s : State) (o : Outcome) → o.answer ≡ 0
    → not (eqb (judged rules b s o).answer 0) ≡ true → first_that_applies rules ≡ 0 → A
not_accepted rules b s o n g z =
    clash (eqb (judged rules b s o).answer 0) (rw (goes_through rules b s o z, n)) (not-true _ g)

module _ (cfg : Configuration) where
  -- a call that changes no block and not the board, where it is accepted
  abbrev pub only_reads : Call → Bool
  only_reads Fresh = false
  only_reads (Report k code frame present) = false
  only_reads (Tick ms frame present) = false
  only_reads (Start c) = false
  only_reads (Stop c) = false
  only_reads (Clear code) = false
  only_reads (Read q) = true
  only_reads (Restore image) = false
  only_reads (Request bytes) = not (asks_clear cfg bytes)

  -- what an accepted call, with b lent beside it, makes of state s; a fresh and a restore begin anew and have no place
  -- here
  pub data Does (b : Beside) (s : State) : Call → State → Type 0 where
    a_report : (k code : ℕ) (frame : List ℕ) (present : ℕ)
        → first_that_applies (report_rules cfg k code frame present b s) ≡ 0
        → Does b s (Report k code frame present) (applied cfg frame k (debounced_by cfg k code s) s)
    a_tick : (ms : ℕ) (frame : List ℕ) (present : ℕ) → first_that_applies (tick_rules cfg ms frame present b s) ≡ 0
        → Does b s (Tick ms frame present) (for_those cfg (tick_moves cfg present s.board) (ticks cfg ms frame) s)
    a_start : (c : ℕ) → first_that_applies (start_rules cfg c s) ≡ 0
        → Does b s (Start c) (with_cycle c true (for_those cfg (of_cycle cfg c) (happens cfg start) s))
    a_stop : (c : ℕ) → first_that_applies (stop_rules cfg c b s) ≡ 0
        → Does b s (Stop c) (with_cycle c false (for_those cfg (of_cycle cfg c) (stops cfg) s))
    a_clear : (code : ℕ) → first_that_applies (clear_rules cfg code b s) ≡ 0 → Does b s (Clear code) (cleared cfg code s)
    -- service 14 with a known code does what the clear does
    a_request : (bytes : List ℕ) → asks_clear cfg bytes ≡ true
        → first_that_applies (clear_rules cfg (three_at 1 bytes) b s) ≡ 0
        → Does b s (Request bytes) (cleared cfg (three_at 1 bytes) s)
    a_reading : (c : Call) → only_reads c ≡ true → Does b s c s

  -- service 14 clears a known code, and nothing else changes the state
  served_state : (bytes : List ℕ) (room : ℕ) (s : State)
      → (served_by cfg bytes room s).state ≡ cond (asks_clear cfg bytes) (cleared cfg (three_at 1 bytes) s) s
  unfolding served_by service14
  served_state bytes room s = go (eqb (get_or bytes 0 0) 0x14) refl
    where
      code : ℕ
      code = three_at 1 bytes

      is14 : (fits unknown : Bool)
          → (cond (not fits) (served (negative 0x13) s)
          (cond unknown (served (negative 0x31) s) (served (positive (0x54 ∷ [])) (cleared cfg code s)))).state
          ≡ cond (fits && not unknown) (cleared cfg code s) s
      is14 true true = refl
      is14 true false = refl
      is14 false unknown = refl

      go : (b : Bool) → eqb (get_or bytes 0 0) 0x14 ≡ b
          → (served_by cfg bytes room s).state
          ≡ cond (b && eqb (length bytes) 4 && not (unknown_code cfg code)) (cleared cfg code s) s
      go true e = rw (eqb-true (get_or bytes 0 0) 0x14 e) (is14 (eqb (length bytes) 4) (unknown_code cfg code))
      go false e = rw e (by (eqb (get_or bytes 0 0) 0x19) (λ (r : Served). r.state ≡ s) (λ x. refl) (λ x. refl))

  -- where a request is accepted, so is a clear of a known code
  request_clears : (bytes : List ℕ) (b : Beside) (s : State) → first_that_applies (request_rules cfg bytes b s) ≡ 0
      → asks_clear cfg bytes ≡ true
      → first_that_applies (clear_rules cfg (three_at 1 bytes) b s) ≡ 0
  unfolding first_that_applies request_rules clear_rules
  request_clears bytes b s z a =
      rw (
        none_applies (request_rules cfg bytes b s) z refl 0,
        none_applies (request_rules cfg bytes b s) z refl 1,
        known,
        below,
      )
    where
      below : carries_past (clear_log cfg (three_at 1 bytes) s) b.counts ≡ false
      below = rw a at (none_applies (request_rules cfg bytes b s) z refl 4)

      known : unknown_code cfg (three_at 1 bytes) ≡ false
      known =
          not-true _
          (and_right (eqb (get_or bytes 0 0) 0x14 && eqb (length bytes) 4) (not (unknown_code cfg (three_at 1 bytes))) a)

  request_does : (bytes : List ℕ) (b : Beside) (s : State) → first_that_applies (request_rules cfg bytes b s) ≡ 0
      → Does b s (Request bytes) (served_by cfg bytes (length b.room) s).state
  request_does bytes b s z =
      subst (Does b s (Request bytes)) (sym (served_state bytes (length b.room) s))
      (by (asks_clear cfg bytes) (Does b s (Request bytes))
      (λ a. a_request bytes a (request_clears bytes b s z a))
      (λ n. a_reading (Request bytes) (ap not n)))

  -- "Refused calls and other events' reports count for nothing."
  pub refused_gives_nothing : (c : Call) (b : Beside) (s : State) (e : ℕ) → (outcome cfg c b s).answer ≢ 0
      → tokens_at cfg c b s e ≡ []
  unfolding tokens
  refused_gives_nothing c b s e h = rw (ne_eqb (outcome cfg c b s).answer 0 h)

  nothing : (t : Bool) → only_if t [] ≡ []
  nothing true = refl
  nothing false = refl

  pub other_reports_give_nothing : (k code : ℕ) (frame : List ℕ) (present : ℕ) (b : Beside) (s : State) (e : ℕ) → e ≢ k
      → tokens_at cfg (Report k code frame present) b s e ≡ []
  unfolding tokens
  other_reports_give_nothing k code frame present b s e h =
      rw (ne_eqb e k h) (nothing (eqb (outcome cfg (Report k code frame present) b s).answer 0))

  -- "a tick counts for an event only while its conditions hold"
  pub waiting_tick_gives_nothing : (ms : ℕ) (frame : List ℕ) (present : ℕ) (b : Beside) (s : State) (e : ℕ)
      → enabled cfg present e ≡ false → tokens_at cfg (Tick ms frame present) b s e ≡ []
  unfolding tokens
  waiting_tick_gives_nothing ms frame present b s e q =
      rw (q, and_false (time_runs cfg s.board e))
      (nothing (eqb (outcome cfg (Tick ms frame present) b s).answer 0))

  -- a call that only reads leaves the state as it was, accepted or refused
  pub query_leaves : (q : Query) (b : Beside) (s : State) → (answer_to cfg q b s).state ≡ s
  unfolding read_status read_frame read_counter read_missing read_table read_paint list_grey save
  query_leaves (ReadStatus k) b s = judged_leaves _ b s _ refl
  query_leaves (ReadFrame k which) b s = judged_leaves _ b s _ refl
  query_leaves (ReadCounter k) b s = judged_leaves _ b s _ refl
  query_leaves (ReadMissing k present) b s = judged_leaves _ b s _ refl
  query_leaves ReadTable b s = judged_leaves _ b s _ refl
  query_leaves (ReadPaint k) b s = judged_leaves _ b s _ refl
  query_leaves ListGrey b s = judged_leaves _ b s _ refl
  query_leaves Save b s = judged_leaves _ b s _ refl

  query_does : (q : Query) (b : Beside) (s : State) → Either (Does b s (Read q)) s (answer_to cfg q b s)
  query_does q b s = go (eqb (answer_to cfg q b s).answer 0) refl
    where
      go : (t : Bool) → eqb (answer_to cfg q b s).answer 0 ≡ t → Either (Does b s (Read q)) s (answer_to cfg q b s)
      go true e = inr (eqb-true _ 0 e, subst (Does b s (Read q)) (sym (query_leaves q b s)) (a_reading (Read q) refl))
      go false e = inl (eqb-false _ 0 e, query_leaves q b s)

  pub call_does : (c : Call) (b : Beside) (s : State) → carries_on cfg c b s ≡ true
      → Either (Does b s c) s (outcome cfg c b s)
  unfolding fresh report tick start_cycle stop_cycle clear_code restore request_reply sent
  call_does Fresh b s g = judged_either (Does b s Fresh) _ b s _ refl (λ z. not_accepted _ b s _ refl g z)
  call_does (Report k code frame present) b s g =
      judged_either (Does b s (Report k code frame present)) _ b s _ refl (a_report k code frame present)
  call_does (Tick ms frame present) b s g =
      judged_either (Does b s (Tick ms frame present)) _ b s _ refl (a_tick ms frame present)
  call_does (Start c) b s g = judged_either (Does b s (Start c)) _ b s _ refl (a_start c)
  call_does (Stop c) b s g = judged_either (Does b s (Stop c)) _ b s _ refl (a_stop c)
  call_does (Clear code) b s g = judged_either (Does b s (Clear code)) _ b s _ refl (a_clear code)
  call_does (Read q) b s g = query_does q b s
  call_does (Restore image) b s g =
      judged_either (Does b s (Restore image)) _ b s _ refl (λ z. not_accepted _ b s _ refl g z)
  call_does (Request bytes) b s g = judged_either (Does b s (Request bytes)) _ b s _ refl (request_does bytes b s)

  -- ---- what every call keeps, of a relation between state and histories

  -- the histories after what call c gives on state s
  abbrev pub given : Call → State → Histories → Histories
  given c s H e = gives cfg c s.board e (D s e) ++ H e

  -- What a relation must keep for every call to keep it: the five that change the state, where they are accepted.
  pub record KeptWhenAccepted (Q : State → Histories → Type 0) (b : Beside) (s : State) (H : Histories) : Type 0 where
    pub report : (k code : ℕ) (frame : List ℕ) (present : ℕ)
        → first_that_applies (report_rules cfg k code frame present b s) ≡ 0
        → Q (applied cfg frame k (debounced_by cfg k code s) s) (given (Report k code frame present) s H)
    pub tick : (ms : ℕ) (frame : List ℕ) (present : ℕ) → first_that_applies (tick_rules cfg ms frame present b s) ≡ 0
        → Q (for_those cfg (tick_moves cfg present s.board) (ticks cfg ms frame) s) (given (Tick ms frame present) s H)
    pub start : (c : ℕ) → first_that_applies (start_rules cfg c s) ≡ 0
        → Q (with_cycle c true (for_those cfg (of_cycle cfg c) (happens cfg start) s)) (given (Start c) s H)
    pub stop : (c : ℕ) → first_that_applies (stop_rules cfg c b s) ≡ 0
        → Q (with_cycle c false (for_those cfg (of_cycle cfg c) (stops cfg) s)) (given (Stop c) s H)
    pub clear : (code : ℕ) → first_that_applies (clear_rules cfg code b s) ≡ 0
        → Q (cleared cfg code s) (given (Clear code) s H)

  module _ (Q : State → Histories → Type 0) (b : Beside) (s : State) (H : Histories) (q : Q s H)
      (k : KeptWhenAccepted Q b s H) where
    -- a request's tokens are those of the clear that it asks for
    asked : (a : Bool) (bytes : List ℕ) (t : State) → asks_clear cfg bytes ≡ a
        → Q t (λ e. only_if (a && covers cfg (three_at 1 bytes) e) (clear ∷ []) ++ H e)
        → Q t (λ e. only_if (asks_clear cfg bytes && covers cfg (three_at 1 bytes) e) (clear ∷ []) ++ H e)
    asked a bytes t is =
        subst (λ (a : Bool). Q t (λ e. only_if (a && covers cfg (three_at 1 bytes) e) (clear ∷ []) ++ H e)) (sym is)

    reading_keeps : (c : Call) → only_reads c ≡ true → Q s (given c s H)
    reading_keeps Fresh r = q
    reading_keeps (Report e code frame present) r = clash true refl (sym r)
    reading_keeps (Tick ms frame present) r = clash true refl (sym r)
    reading_keeps (Start c) r = clash true refl (sym r)
    reading_keeps (Stop c) r = clash true refl (sym r)
    reading_keeps (Clear code) r = clash true refl (sym r)
    reading_keeps (Read p) r = q
    reading_keeps (Restore image) r = q
    reading_keeps (Request bytes) r = asked false bytes s (not-true _ r) q

    does_keeps : (c : Call) (t : State) → Does b s c t → Q t (given c s H)
    does_keeps _ _ (a_report e code frame present z) = k.report e code frame present z
    does_keeps _ _ (a_tick ms frame present z) = k.tick ms frame present z
    does_keeps _ _ (a_start c z) = k.start c z
    does_keeps _ _ (a_stop c z) = k.stop c z
    does_keeps _ _ (a_clear code z) = k.clear code z
    does_keeps _ _ (a_request bytes a z) = asked true bytes _ a (k.clear (three_at 1 bytes) z)
    does_keeps _ _ (a_reading c r) = reading_keeps c r

    -- "Refused calls … count for nothing."
    pub call_keeps : (c : Call) → carries_on cfg c b s ≡ true
        → Q (outcome cfg c b s).state (λ e. tokens_at cfg c b s e ++ H e)
    unfolding tokens
    call_keeps c g = go (outcome cfg c b s) (call_does c b s g)
      where
        go : (o : Outcome) → Either (Does b s c) s o
            → Q o.state (λ e. tokens cfg o.answer c s.board e (D s e) ++ H e)
        go o (inl (n, p)) = rw (p, ne_eqb o.answer 0 n) q
        go o (inr (z, d)) = rw z (does_keeps c o.state d)
