-- The three conditions that the customer accepts the manager by, each under its words. What is said here is said of the
-- outcome of each call as document 01 defines it (specs/); that each call in code has exactly that outcome is the
-- statement of the call itself. The theorems are proved in the files that the `use` lines name.
use mathlib.Core.Path.{◌≡◌}
use mathlib.Core.Logic.{◌≢◌, ◌⊎◌, ◌↔◌}
use mathlib.Core.Bool.{Bool, true, false, ◌||◌, cond}
use mathlib.Core.List.{List, [], ◌++◌, map, Memᴰ}
use Prim.Native.Nat.{ℕ, ◌+◌, ◌*◌, ◌≤◌, ◌<◌}
use lib.ListN.{length, get_or}
use Rattle.history.specs.Words.{any_of}
use Rattle.history.specs.StatusByte.{Bit, status_of}
use Rattle.history.specs.History.{reading}
use Rattle.manual.specs.Configuration.{Configuration, events, frame_bytes, limits_of, config_ok}
use Rattle.manual.specs.State.{State, record_width}
use Rattle.manual.specs.WellFormed.{lengths_fit, entries_with, entries, well_formed_with, well_formed}
use Rattle.manual.specs.Memory.{Entry, is_lost, no_twice, store}
use Rattle.manual.specs.Conditions.{enabled}
use Rattle.manual.specs.Displacement.{Ruled}
use Rattle.manual.specs.Answers.{Beside, with_counts, Outcome, Given, refused, done}
use Rattle.manual.specs.Counts.{rise_of, counts_fit, present_counts, present_of, admissions_of, leavings_of, Accounts}
use Rattle.manual.specs.Counts.{count_of, of_store, past}
use Rattle.manual.specs.Words.{count_below}
use Rattle.manual.specs.Debouncing.{Debounced}
use Rattle.manual.specs.OneEvent.{has_entry}
use Rattle.manual.specs.Calls.{applied, applied_did, debounced_by, report_did, report_log, report, ticks}
use Rattle.manual.specs.Calls.{ticks_did, tick_log, tick}
use Rattle.manual.specs.Image.{edition1, edition2, image_of, state_in, widened, acceptable_in, acceptable, save}
use Rattle.manual.specs.Image.{saved, restore, with_both}
use Rattle.manual.specs.Diagnostics.{request_reply}
use Rattle.manual.specs.Replies.{Replies}
use Rattle.manual.specs.Sequences.{Query, Call, Report, Tick, answer_to, outcome, rules_of}
use Rattle.manual.specs.Sequences.{tokens_at, log_at, carries_on, saved_image, Reached, restored}
use Rattle.manual.specs.Tallies.{takes_counts, Tally, Tallied, Leaves}
use Rattle.manual.specs.EntriesInACall.{Fate, Origin}
use Rattle.manual.specs.MarkedExamples.{replayed, table}
use Rattle.manual.proofs.SequencesLaws.{Histories}
use Rattle.manual.proofs.SequencesLaws as SequencesLaws
use Rattle.manual.proofs.AnswerIsFirstThatApplies as AnswerIsFirstThatApplies
use Rattle.manual.proofs.StaysWellFormed as StaysWellFormed
use Rattle.manual.proofs.OnlyTheNamedEntryLeaves as OnlyTheNamedEntryLeaves
use Rattle.manual.proofs.OnlyTheNamedEntryLeavesInEveryCall as OnlyTheNamedEntryLeavesInEveryCall
use Rattle.manual.proofs.RepliesFollowTheSentences as RepliesFollowTheSentences
use Rattle.manual.proofs.AcceptedImages as AcceptedImages
use Rattle.manual.proofs.WidenedLaws as WidenedLaws
use Rattle.manual.proofs.RestoreAfterSave as RestoreAfterSave
use Rattle.manual.proofs.SaveAfterRestore as SaveAfterRestore
use Rattle.manual.proofs.WellFormedInEverySequence as WellFormedInEverySequence
use Rattle.manual.proofs.ByteIsReadingInEverySequence as ByteIsReadingInEverySequence
use Rattle.manual.proofs.NoCallLeftOut as NoCallLeftOut
use Rattle.manual.proofs.TwelveIsCheckedLast as TwelveIsCheckedLast
use Rattle.manual.proofs.NotStoredSetsOverflow as NotStoredSetsOverflow
use Rattle.manual.proofs.AccountsLaws as AccountsLaws
use Rattle.manual.proofs.MemoryStaysGood.{MemoryGood}
use Rattle.manual.proofs.StoresAreNamed.{Named}
use Rattle.manual.proofs.StoresAreNamed as StoresAreNamed
use Rattle.manual.proofs.NothingAgesInAReportOrTick.{up_to}
use Rattle.manual.proofs.NothingAgesInAReportOrTick as NothingAgesInAReportOrTick
use Rattle.manual.proofs.AdmittedIsPresentAndLeft as AdmittedIsPresentAndLeft
use Rattle.manual.proofs.EachCountIs32Bits as EachCountIs32Bits
use Rattle.manual.proofs.CallsWithoutCounts as CallsWithoutCounts
use Rattle.manual.proofs.SequencesAreTallied as SequencesAreTallied
use Rattle.manual.proofs.Examples as Examples

-- any configuration whatever
module _ (cfg : Configuration) where
  -- ---- 1. Total: any call with any arguments, any blocks and board, and anything lent beside them
  -- "Every public call takes any configuration, blocks, frame or request whatever. It ends, refuses by the numbers of
  -- document 01 exactly when 01 says, and a refused call leaves every lent block and the board as found." That it ends
  -- is proved with its code.

  module _ (c : Call) (b : Beside) (s : State) where
    -- "refuses by the numbers of document 01 exactly when 01 says": it answers k exactly when k is the first of its
    -- list that applies
    pub refuses_exactly_when : (k : ℕ) → ((outcome cfg c b s).answer ≡ k) ↔ Given (rules_of cfg c b s) k
    refuses_exactly_when = AnswerIsFirstThatApplies.answer_is_given cfg c b s

    -- "a refused call leaves every lent block and the board as found"
    pub refused_leaves_all : (outcome cfg c b s).answer ≢ 0 → outcome cfg c b s ≡ refused (outcome cfg c b s).answer b s
    refused_leaves_all = AnswerIsFirstThatApplies.refusal_leaves_all cfg c b s

  -- a call that only reads leaves them so where it is done, too
  pub reading_leaves_all : (q : Query) (b : Beside) (s : State) → (answer_to cfg q b s).state ≡ s
  reading_leaves_all = SequencesLaws.query_leaves cfg

  -- ---- 2. Exact
  -- "Debouncing, the ISO 14229 status bits, confirmation, healing, ageing, fault memory with displacement, diagnostic
  -- replies and saved image are exactly 01's." What each call does is 01's definition, and these tie the definitions to
  -- 01's sentences once more.

  -- "fault memory with displacement": what a store leaves, and what it did, is by one of the rules 1 to 4
  pub store_is_ruled : (M : ℕ) (priority : ℕ → ℕ) (quiet : ℕ → Bool) (e : ℕ) (frame : List ℕ) (xs : List Entry)
      → no_twice xs ≡ true
      → Ruled M priority quiet e frame xs (store M priority quiet e frame xs)
  store_is_ruled = OnlyTheNamedEntryLeaves.store_is_ruled

  -- "diagnostic replies … are exactly 01's": an accepted request has this outcome exactly where a sentence of document
  -- 01 gives it
  pub replies_exactly : (request : List ℕ) (b : Beside) (s : State) → (request_reply cfg request b s).answer ≡ 0
      → (o : Outcome)
      → (request_reply cfg request b s ≡ o) ↔ Replies cfg request s b o
  replies_exactly = RepliesFollowTheSentences.reply_exactly cfg

  -- "saved image": restore accepts exactly the images of well-formed states with all cycles stopped; document 02, W6:
  -- in edition 2, whose entries have two frames, and in edition 1, whose entries have one
  pub images_exactly : (image : List ℕ)
      →
      (acceptable cfg image ≡ true)
      ↔ (AcceptedImages.IsImage cfg (edition2 cfg) image ⊎ AcceptedImages.IsImage cfg (edition1 cfg) image)
  images_exactly = AcceptedImages.accepted_exactly cfg

  -- "An accepted image restored and saved again gives the same bytes", in any room that holds them; W6: "now reads for
  -- edition 2 images only"
  pub restored_and_saved : (image : List ℕ) (b : Beside) (s : State) → (restore cfg image b s).answer ≡ 0
      → acceptable_in cfg (edition2 cfg) image ≡ true
      → (b' : Beside) → length image ≤ length b'.room
      → save cfg b' (restore cfg image b s).state ≡ saved cfg image b' (restore cfg image b s).state
  restored_and_saved = SaveAfterRestore.save_after_restore cfg

  -- "an edition 1 image is accepted too, its one frame becoming both": the state that it makes is the one that it
  -- tells, with these entries
  pub edition_1_makes : (image : List ℕ) (b : Beside) (s : State) → (restore cfg image b s).answer ≡ 0
      → acceptable_in cfg (edition1 cfg) image ≡ true
      → (restore cfg image b s).state ≡ widened cfg (state_in cfg (edition1 cfg) image)
  edition_1_makes = SaveAfterRestore.widened_by_restore cfg

  pub both_frames_lem : (s : State) → well_formed_with cfg (frame_bytes cfg) s ≡ true
      → entries cfg (widened cfg s) ≡ map with_both (entries_with cfg (frame_bytes cfg) s)
  both_frames_lem = WidenedLaws.widened_entries cfg

  -- "Saving always writes edition 2": what was restored, from either edition, and is saved into a room that holds its
  -- image, is written as that image
  pub restored_and_saved_anew : (image : List ℕ) (b : Beside) (s : State) → (restore cfg image b s).answer ≡ 0
      → (b' : Beside) → length (image_of cfg (restore cfg image b s).state) ≤ length b'.room
      → save cfg b' (restore cfg image b s).state
      ≡ saved cfg (image_of cfg (restore cfg image b s).state) b' (restore cfg image b s).state
  restored_and_saved_anew = SaveAfterRestore.saved_after_restore cfg

  -- and that image restored is the same state
  pub saved_anew_and_restored : (image : List ℕ) (b : Beside) (s : State) → (restore cfg image b s).answer ≡ 0
      → (b' : Beside) → (save cfg b' (restore cfg image b s).state).answer ≡ 0
      → (b'' : Beside) (s'' : State) → lengths_fit cfg s'' ≡ true → counts_fit b''.counts ≡ true
      → restore cfg (saved_image (save cfg b' (restore cfg image b s).state)) b'' s''
      ≡ done (with_counts (present_counts (entries cfg (restore cfg image b s).state)) b'') (restore cfg image b s).state
  saved_anew_and_restored = SaveAfterRestore.saved_again_restored cfg

  -- "a saved state restored is the same state", into any blocks of fitting lengths; that a board has four cycles is a
  -- fact of its type in code. Document 02, W7: "The counts are neither in the image nor part of the state that
  -- condition 2 speaks of."; "A restore sets admitted to the entries present and the rest to 0"
  pub saved_and_restored : (s s' : State) → length s.board.running ≡ 4 → lengths_fit cfg s' ≡ true → (b b' : Beside)
      → counts_fit b'.counts ≡ true → (save cfg b s).answer ≡ 0
      → restore cfg (saved_image (save cfg b s)) b' s' ≡ done (with_counts (present_counts (entries cfg s)) b') s
  saved_and_restored = RestoreAfterSave.restore_after_save cfg

  -- "Memory never lists an event twice": it is a clause of "well formed", and every call leaves a well-formed state
  -- well formed
  pub stays_well_formed : (c : Call) (b : Beside) (s : State) → well_formed cfg s ≡ true
      → well_formed cfg (outcome cfg c b s).state ≡ true
  stays_well_formed = StaysWellFormed.stays_well_formed cfg

  -- "only the entry the rule names is pushed out": what becomes of each entry in a call that makes no second fresh
  -- state and restores none, and where each comes from that stands there afterwards
  module _ (c : Call) (b : Beside) (s : State) (goes_on : carries_on cfg c b s ≡ true) where
    pub fate_of_each : (x : Entry) → Memᴰ x (entries cfg s)
        → Fate cfg b s c (entries cfg (outcome cfg c b s).state) x
    fate_of_each = OnlyTheNamedEntryLeavesInEveryCall.fate_of_each cfg c b s goes_on

    pub origin_of_each : (y : Entry) → Memᴰ y (entries cfg (outcome cfg c b s).state) → Origin cfg b s c y
    origin_of_each = OnlyTheNamedEntryLeavesInEveryCall.origin_of_each cfg c b s goes_on

  -- ---- 3. History: a state that calls lead to from a fresh one, with restores of images saved on the way, and each
  -- event's history

  module _ {s : State} {H : Histories} (reached : Reached cfg s H) where
    -- "all eight status bits of each event equal what 01 reads off that event's whole history"
    pub every_bit_is_read : (e : ℕ) → e < events cfg → (bit : Bit)
        → status_of (get_or s.records (record_width * e) 0) bit ≡ reading (limits_of cfg e) (H e) bit
    every_bit_is_read = ByteIsReadingInEverySequence.bit_is_reading_in_sequence cfg reached

    pub no_event_twice : no_twice (entries cfg s) ≡ true
    no_event_twice = WellFormedInEverySequence.no_event_twice cfg reached

    -- the configuration and the state are in order: no call is refused with 2, nor with 3 where it takes no counts or
    -- is lent five
    pub never_refused_with_2 : (c : Call) (b : Beside) → (outcome cfg c b s).answer ≢ 2
    never_refused_with_2 = WellFormedInEverySequence.never_refused_with_2 cfg reached

    pub never_refused_with_3 : (c : Call) (b : Beside) → (takes_counts c ≡ true → counts_fit b.counts ≡ true)
        → (outcome cfg c b s).answer ≢ 3
    never_refused_with_3 = WellFormedInEverySequence.never_refused_with_3 cfg reached

    -- "any sequence of calls": every call leads on, with the tokens that it gives, but for an accepted fresh or restore
    pub no_call_left_out : (c : Call) (b : Beside)
        → Reached cfg (outcome cfg c b s).state (λ e. tokens_at cfg c b s e ++ H e) ⊎ NoCallLeftOut.Anew cfg b s c
    no_call_left_out = NoCallLeftOut.no_call_left_out cfg reached

    -- "Refused calls and other events' reports count for nothing."
    pub refused_gives_nothing : (c : Call) (b : Beside) (e : ℕ) → (outcome cfg c b s).answer ≢ 0
        → tokens_at cfg c b s e ≡ []
    refused_gives_nothing c b = SequencesLaws.refused_gives_nothing cfg c b s

    pub other_reports_give_nothing : (k code : ℕ) (frame : List ℕ) (present : ℕ) (b : Beside) (e : ℕ) → e ≢ k
        → tokens_at cfg (Report k code frame present) b s e ≡ []
    other_reports_give_nothing k code frame present b =
        SequencesLaws.other_reports_give_nothing cfg k code frame present b s

    -- document 02, W5: "a tick counts for an event only while its conditions hold"
    pub waiting_tick_gives_nothing : (ms : ℕ) (frame : List ℕ) (present : ℕ) (b : Beside) (e : ℕ)
        → enabled cfg present e ≡ false → tokens_at cfg (Tick ms frame present) b s e ≡ []
    waiting_tick_gives_nothing ms frame present b = SequencesLaws.waiting_tick_gives_nothing cfg ms frame present b s

    -- "After restoring an image saved in that sequence, the history is the one up to that save, then what follows."
    pub restored_leads_on : (b : Beside) → (save cfg b s).answer ≡ 0
        → (b' : Beside) (s' : State) → (restore cfg (saved_image (save cfg b s)) b' s').answer ≡ 0
        → Reached cfg (restore cfg (saved_image (save cfg b s)) b' s').state H
    restored_leads_on = restored reached

  -- ---- Document 02, W7: "Where did the entry go?"

  -- "refused with new number 12, checked last": only where no other refusal of the call applies
  pub twelve_is_checked_last : (c : Call) (b : Beside) (s : State) → (outcome cfg c b s).answer ≡ 12
      → any_of TwelveIsCheckedLast.applies_else (rules_of cfg c b s) ≡ false
  twelve_is_checked_last = TwelveIsCheckedLast.twelve_is_checked_last cfg

  -- "each being the number of entries that the history shows stored anew or leaving so": in every call but an accepted
  -- fresh or restore, of the events that pass any test, as one event by itself, what its log shows admitted less what
  -- it shows leaving is what became of their entries: those after it and those that left are those before it and those
  -- admitted; which way an entry left, and what was not stored, the laws below say
  pub log_tells_the_entries : (p : ℕ → Bool) (c : Call) (b : Beside) (s : State) → carries_on cfg c b s ≡ true
      → Accounts p (log_at cfg c b s) (entries cfg s) (entries cfg (outcome cfg c b s).state)
  log_tells_the_entries p = AccountsLaws.call_accounts p cfg

  -- "entries admitted, pushed out, aged, cleared, and failures not stored": the log of one part of a report or a tick
  -- names event k as admitted exactly where it had no entry before and has one after, as pushed out exactly where it
  -- had one and has none, never as aged or cleared, and as not stored exactly where rule 4 was taken and k is the event
  module _ (frame : List ℕ) (framed : length frame ≡ frame_bytes cfg) (e : ℕ) (below : e < events cfg) (k : ℕ) where
    pub part_is_named : (d : Debounced) (u : State) → MemoryGood cfg u
        → Named (of_store e (applied_did cfg frame e d u)) e (applied_did cfg frame e d u) k (has_entry cfg u k)
        (has_entry cfg (applied cfg frame e d u) k)
    part_is_named = StoresAreNamed.part_named cfg frame framed e below k

    -- a whole report is one part
    pub report_is_named : (code : ℕ) (s : State) → well_formed cfg s ≡ true
        → Named (report_log cfg e code frame s) e (report_did cfg e code frame s) k (has_entry cfg s k)
        (has_entry cfg (applied cfg frame e (debounced_by cfg e code s) s) k)
    report_is_named = StoresAreNamed.report_named cfg frame framed e below k

    -- a tick's part of e, on the state that the parts of the events below it left
    pub tick_part_is_named : (ms present : ℕ) (s : State) → config_ok cfg ≡ true → well_formed cfg s ≡ true
        → Named (of_store e (ticks_did cfg ms frame e (up_to cfg ms frame present s e))) e
        (ticks_did cfg ms frame e (up_to cfg ms frame present s e)) k (has_entry cfg (up_to cfg ms frame present s e) k)
        (has_entry cfg (ticks cfg ms frame e (up_to cfg ms frame present s e)) k)
    tick_part_is_named = StoresAreNamed.tick_part_named cfg frame framed e below k

  -- "aged", "cleared": none in a report or a tick; "failures not stored": one where the report's was not stored, one
  -- for each event ticked whose failure was not stored
  module _ (e code : ℕ) (frame : List ℕ) (s : State) where
    pub report_ages_none : count_of 2 (report_log cfg e code frame s) ≡ 0
    report_ages_none = NothingAgesInAReportOrTick.report_ages_none cfg e code frame s

    pub report_clears_none : count_of 3 (report_log cfg e code frame s) ≡ 0
    report_clears_none = NothingAgesInAReportOrTick.report_clears_none cfg e code frame s

    pub report_losses : count_of 4 (report_log cfg e code frame s) ≡ cond (is_lost (report_did cfg e code frame s)) 1 0
    report_losses = NothingAgesInAReportOrTick.report_losses cfg e code frame s

  module _ (ms : ℕ) (frame : List ℕ) (present : ℕ) (s : State) where
    pub tick_ages_none : count_of 2 (tick_log cfg ms frame present s) ≡ 0
    tick_ages_none = NothingAgesInAReportOrTick.tick_ages_none cfg ms frame present s

    pub tick_clears_none : count_of 3 (tick_log cfg ms frame present s) ≡ 0
    tick_clears_none = NothingAgesInAReportOrTick.tick_clears_none cfg ms frame present s

    pub tick_losses : count_of 4 (tick_log cfg ms frame present s)
        ≡ count_below (events cfg) (NothingAgesInAReportOrTick.loses_at cfg ms frame present s)
    tick_losses = NothingAgesInAReportOrTick.tick_losses cfg ms frame present s

  -- "failures not stored": rule 4, "not stored; overflow is set"
  pub report_not_stored : (k code : ℕ) (frame : List ℕ) (present : ℕ) (b : Beside) (s : State)
      → (report cfg k code frame present b s).answer ≡ 0
      → (report cfg k code frame present b s).state.board.overflow
      ≡ (s.board.overflow || NotStoredSetsOverflow.some_not_stored (report_log cfg k code frame s))
  report_not_stored = NotStoredSetsOverflow.report_overflow cfg

  pub tick_not_stored : (ms : ℕ) (frame : List ℕ) (present : ℕ) (s : State) (b : Beside)
      → (tick cfg ms frame present b s).answer ≡ 0
      → (tick cfg ms frame present b s).state.board.overflow
      ≡ (s.board.overflow || NotStoredSetsOverflow.some_not_stored (tick_log cfg ms frame present s))
  tick_not_stored = NotStoredSetsOverflow.tick_overflow cfg

  -- "lent as a slice of five": a call that takes no counts neither looks at any nor changes them
  pub counts_not_looked_at : (c : Call) → takes_counts c ≡ false → (k : List ℕ) (b : Beside) (s : State)
      → outcome cfg c (with_counts k b) s ≡ CallsWithoutCounts.recounted k (outcome cfg c b s)
  counts_not_looked_at = CallsWithoutCounts.counts_not_looked_at cfg

  -- in any sequence of calls that are lent the counts that the call before left, with calls among them that take none
  -- or are refused, whatever those are lent
  module _ {t : Tally} (tallied : Tallied cfg t) where
    -- "admitted equals entries present plus pushed out plus aged plus cleared"
    pub admitted_is_present_and_left : get_or t.counts 0 0
        ≡ length (entries cfg t.state) + get_or t.counts 1 0 + get_or t.counts 2 0 + get_or t.counts 3 0
    admitted_is_present_and_left = AdmittedIsPresentAndLeft.admitted_is_present_and_left cfg tallied

    -- "each count then rising only by what follows the restore": each is the number of its kind in the log since the
    -- fresh state or the restore
    pub counts_are_of_the_log : t.counts ≡ rise_of t.log
    counts_are_of_the_log = AdmittedIsPresentAndLeft.counts_are_of_the_log cfg tallied

    -- "five counts, each 32 bits"
    pub each_count_is_32_bits : past t.counts ≡ false
    each_count_is_32_bits = EachCountIs32Bits.each_count_is_32_bits cfg tallied

    -- and event by event
    pub admitted_of_events : (p : ℕ → Bool)
        → admissions_of p t.log ≡ present_of p (entries cfg t.state) + leavings_of p t.log
    admitted_of_events = AdmittedIsPresentAndLeft.admitted_of_events cfg tallied

  -- "Over condition 3's sequences": they are among these, each with its own state
  pub sequences_are_tallied : {s : State} {H : Histories} {r : Reached cfg s H} {t : Tally} → Leaves cfg s H r t
      → SequencesAreTallied.Among cfg s t
  sequences_are_tallied = SequencesAreTallied.sequences_are_tallied cfg

  pub admitted_in_sequence : {s : State} {H : Histories} {r : Reached cfg s H} {t : Tally} → Leaves cfg s H r t
      → get_or t.counts 0 0
      ≡ length (entries cfg s) + get_or t.counts 1 0 + get_or t.counts 2 0 + get_or t.counts 3 0
  admitted_in_sequence = SequencesAreTallied.admitted_in_sequence cfg

-- the definitions make the examples of document 01, E1 to E12: answer, verdict, status, D, g and memory
pub e1_to_e12 : replayed table ≡ table
e1_to_e12 = Examples.e1_to_e12
