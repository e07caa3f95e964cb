-- E1 to E12 of document 01 are sequences of calls from the fresh state, a story of the table each, E1 to E10 one; and
-- in every row of the table the status byte is the one that is read off event 0's history up to there. For E1 to E10
-- that history is written out.
use mathlib.Core.Path.{◌≡◌, refl, sym, ap, ap₂, ◌∙◌}
use mathlib.Core.Bool.{Bool, true, ◌&&◌}
use mathlib.Core.List.{List, [], ◌∷◌, ◌++◌, map, tail}
use Prim.Native.Nat.{ℕ, ◌<◌}
use lib.Dec.{eqb, ltb}
use lib.ListN.{get_or}
use borrow.Author.Tests.{eqb-true, ltb-true}
use Rattle.history.specs.Words.{holds, all_of}
use Rattle.history.specs.StatusByte.{byte_of}
use Rattle.history.specs.WellFormed.{well_formed_record}
use Rattle.history.specs.History.{passed, failed, start, stop, History, reading}
use Rattle.history.proofs.WordsLaws.{and_left, and_right, part}
use Rattle.manual.specs.Words.{all_below, for_below, first_of, those, count_those, equal, between, smaller}
use Rattle.manual.specs.Words.{larger}
use Rattle.manual.specs.Configuration.{Configuration, events, places, frame_bytes}
use Rattle.manual.specs.Configuration.{column, limits_of, row_ok, config_ok}
use Rattle.manual.specs.State.{State, stored_at, with_stored, status_byte}
use Rattle.manual.specs.WellFormed.{d_fits, lengths_fit_with, memory_ok_with, well_formed_with}
use Rattle.manual.specs.Answers as Answers
use Rattle.manual.specs.Answers.{first_that_applies}
use Rattle.manual.specs.Debouncing.{top, bottom, verdict_at, leaves_at, internal_report, counter_up}
use Rattle.manual.specs.Debouncing.{counter_down, counter_report, time_report, reported, ticked}
use Rattle.manual.specs.Conditions.{in_set, none_missing}
use Rattle.manual.specs.OneEvent.{happens, entry_leaves, keeps, memory_told, fails, fails_did, stops, clears}
use Rattle.manual.specs.OneEvent.{for_those}
use Rattle.manual.specs.Memory.{payload_of, renewed_payload, entries_from, entries_of, entries_bytes, memory_of}
use Rattle.manual.specs.Memory.{without}
use Rattle.manual.specs.Memory.{no_twice, victim, pushed_out, admitted, renewed, store}
use Rattle.manual.specs.Calls.{fresh_records, fresh_state, fresh_rules, fresh, report_rules, applied, report}
use Rattle.manual.specs.Calls.{tick_rules, tick, start_rules, start_cycle, stop_rules, stop_cycle}
use Rattle.manual.specs.Calls.{report_log, tick_log, stop_log, applied_did}
use Rattle.manual.specs.Counts.{log_below, raised, past}
use Rattle.manual.specs.Sequences.{Call, outcome, tokens, tokens_at, carries_on, Reached, begun, called}
use Rattle.manual.specs.MarkedExamples.{zeroed, Row, Story, After, after_call, after_calls, replayed_rows, blank}
use Rattle.manual.specs.MarkedExamples.{after_fresh, replayed, marked, e1_to_e10, e11, e12, table}
use Rattle.manual.proofs.SequencesLaws.{Histories}
use Rattle.manual.proofs.ByteIsReadingInEverySequence.{byte_is_reading_in_sequence}
use Rattle.manual.proofs.Examples.{e1_to_e12}

module _ (cfg : Configuration) where
  -- calls one after the other, the oldest first: the histories after them, and that each of them goes on
  unfoldable pub histories_after : List Call → State → Histories → Histories
  histories_after [] s H = H
  histories_after (c ∷ cs) s H =
      histories_after cs (outcome cfg c zeroed s).state (λ e. tokens_at cfg c zeroed s e ++ H e)

  all_go_on : List Call → State → Bool
  all_go_on [] s = true
  all_go_on (c ∷ cs) s = carries_on cfg c zeroed s && all_go_on cs (outcome cfg c zeroed s).state

  follow : (cs : List Call) (a : After) {H : Histories} → Reached cfg a.state H → all_go_on cs a.state ≡ true
      → Reached cfg (after_calls cfg cs a).state (histories_after cs a.state H)
  unfolding histories_after all_go_on
  follow [] a r g = r
  follow (c ∷ cs) a r g =
      let rest = all_go_on cs (outcome cfg c zeroed a.state).state in
      follow cs (after_call cfg c a.state) (called r c zeroed (and_left (carries_on cfg c zeroed a.state) rest g))
      (and_right (carries_on cfg c zeroed a.state) rest g)

  -- the status that is seen is event 0's byte
  SeesIt : After → Type 0
  SeesIt a = a.seen.status ≡ status_byte a.state 0

  sees_it : (cs : List Call) (a : After) → SeesIt a → SeesIt (after_calls cfg cs a)
  unfolding SeesIt
  sees_it [] a e = e
  sees_it (c ∷ cs) a e = sees_it cs (after_call cfg c a.state) refl

  -- the bytes that are read off event 0's history, row by row
  unfoldable pub bytes_read : List Row → After → Histories → List ℕ
  bytes_read [] a H = []
  bytes_read (r ∷ rs) a H =
      let K = histories_after r.calls a.state H in
      byte_of (reading (limits_of cfg 0) (K 0)) ∷ bytes_read rs (after_calls cfg r.calls a) K

  rows_go_on : List Row → After → Bool
  rows_go_on [] a = true
  rows_go_on (r ∷ rs) a = all_go_on r.calls a.state && rows_go_on rs (after_calls cfg r.calls a)

  rows_read : 0 < events cfg → (rows : List Row) (a : After) {H : Histories} → Reached cfg a.state H → SeesIt a
      → rows_go_on rows a ≡ true
      → replayed_rows cfg rows a ≡ rows → bytes_read rows a H ≡ map (λ r. r.seen.status) rows
  unfolding bytes_read rows_go_on SeesIt stored_at
  rows_read below [] a reached seen g e = refl
  rows_read below (r ∷ rs) a {H} reached seen g e =
      ap₂ ◌∷◌
      (sym (byte_is_reading_in_sequence cfg then 0 below) ∙ sym (sees_it r.calls a seen)
      ∙ ap (λ (l : List Row). (get_or l 0 r).seen.status) e)
      (rows_read below rs (after_calls cfg r.calls a) then (sees_it r.calls a seen) (and_right goes rest g)
      (ap tail e))
    where
      goes : Bool
      goes = all_go_on r.calls a.state

      rest : Bool
      rest = rows_go_on rs (after_calls cfg r.calls a)

      then : Reached cfg (after_calls cfg r.calls a).state (histories_after r.calls a.state H)
      then = follow r.calls a reached (and_left goes rest g)

-- ---- the stories of the table

-- it begins with an accepted fresh, each of its calls goes on, and there is an event 0
is_a_sequence : Story → Bool
is_a_sequence t =
    holds
    (eqb (fresh t.config zeroed (blank t.config)).answer 0
    ∷ rows_go_on t.config t.rows (after_fresh t.config)
    ∷ ltb 0 (events t.config)
    ∷ [])

-- the status bytes read off the histories, and those that the rows say
abbrev pub read_in : Story → List ℕ
read_in t = bytes_read t.config t.rows (after_fresh t.config) (λ e. [])

abbrev pub said_in : Story → List ℕ
said_in t = map (λ r. r.seen.status) t.rows

story_read : (t : Story) → is_a_sequence t ≡ true → replayed_rows t.config t.rows (after_fresh t.config) ≡ t.rows
    → read_in t ≡ said_in t
unfolding is_a_sequence SeesIt
story_read t is e =
    rows_read t.config (ltb-true 0 (events t.config) (part _ is 2)) t.rows (after_fresh t.config)
    (begun zeroed (blank t.config) (eqb-true _ 0 (part _ is 0))) refl (part _ is 1) e

stories_read : (ts : List Story) → all_of is_a_sequence ts ≡ true → replayed ts ≡ ts → map read_in ts ≡ map said_in ts
stories_read [] are e = refl
stories_read (t ∷ ts) are e =
    ap₂ ◌∷◌
    (story_read t (and_left (is_a_sequence t) (all_of is_a_sequence ts) are)
    (ap (λ (l : List Story). (get_or l 0 t).rows) e))
    (stories_read ts (and_right (is_a_sequence t) (all_of is_a_sequence ts) are) (ap tail e))

are_sequences : all_of is_a_sequence table ≡ true
unfolding table e1_to_e10 e11 e12 is_a_sequence rows_go_on all_go_on holds all_below between events places frame_bytes column
    row_ok config_ok lengths_fit_with first_that_applies Answers.judged fresh_rules fresh
are_sequences = refl

-- in every row of the table the reading is the row's byte
pub examples_are_read : map read_in table ≡ map said_in table
examples_are_read = stories_read table are_sequences e1_to_e12

-- ---- the history of E1 to E10

abbrev pub calls_of : List Row → List Call
calls_of [] = []
calls_of (r ∷ rs) = r.calls ++ calls_of rs

abbrev pub calls_e1_to_e10 : List Call
calls_e1_to_e10 = calls_of e1_to_e10

abbrev pub begins : After
begins = after_fresh marked

fresh_accepted : (fresh marked zeroed (blank marked)).answer ≡ 0
unfolding table is_a_sequence
fresh_accepted = eqb-true _ 0 (part _ (and_left _ _ are_sequences) 0)

go_on : all_go_on marked calls_e1_to_e10 begins.state ≡ true
unfolding e1_to_e10 all_go_on
go_on = refl

-- they are one sequence, with these histories
pub is_reached : Reached marked (after_calls marked calls_e1_to_e10 begins).state
    (histories_after marked calls_e1_to_e10 begins.state (λ e. []))
is_reached = follow marked calls_e1_to_e10 begins (begun zeroed (blank marked) fresh_accepted) go_on

-- the pre-failed report of E2 gives no token
abbrev pub history : History
history =
    stop ∷ start ∷ stop ∷ start ∷ stop ∷ passed ∷ start ∷ stop ∷ passed ∷ failed ∷ start ∷ stop ∷ failed ∷ start ∷ []

pub its_history : histories_after marked calls_e1_to_e10 begins.state (λ e. []) 0 ≡ history
unfolding e1_to_e10 histories_after tokens holds well_formed_record all_below for_below first_of those equal between smaller
    larger events places frame_bytes column row_ok config_ok stored_at with_stored lengths_fit_with d_fits memory_ok_with
    well_formed_with
    first_that_applies Answers.judged top bottom verdict_at leaves_at internal_report counter_up counter_down counter_report
    time_report reported ticked happens entry_leaves keeps memory_told fails stops clears for_those entries_from entries_of
    payload_of renewed_payload entries_bytes memory_of without no_twice victim pushed_out admitted renewed store
    fresh_records fresh_state fresh_rules
    fresh report_rules applied report tick_rules tick start_rules start_cycle stop_rules stop_cycle in_set none_missing
    report_log tick_log stop_log log_below applied_did fails_did count_those raised past
its_history = refl
