-- The definitions make E1 to E12 of document 01, and its image of a fresh state.
use mathlib.Core.Path.{◌≡◌, refl}
use mathlib.Core.List.{List, [], ◌∷◌, ◌++◌}
use Prim.Native.Nat.{ℕ}
use lib.IntN.{ℤ, pos}
use Rattle.history.specs.Words.{holds}
use Rattle.history.specs.WellFormed.{well_formed_record}
use Rattle.manual.specs.Words.{all_below, for_below, first_of, those, count_those, equal, between, smaller}
use Rattle.manual.specs.Words.{larger}
use Rattle.manual.specs.Configuration.{Configuration, events, places, frame_bytes, column, row_ok, config_ok}
use Rattle.manual.specs.State.{stored_at, with_stored}
use Rattle.manual.specs.WellFormed.{d_fits, lengths_fit_with, memory_ok_with, well_formed_with}
use Rattle.manual.specs.Answers as Answers
use Rattle.manual.specs.Answers.{first_that_applies}
use Rattle.manual.specs.Debouncing.{top, bottom, verdict_at, leaves_at, internal_report, counter_up}
use Rattle.manual.specs.Debouncing.{counter_down, counter_report, time_report, reported, ticked}
use Rattle.manual.specs.Conditions.{in_set, none_missing}
use Rattle.manual.specs.OneEvent.{happens, entry_leaves, keeps, memory_told, fails, fails_did, stops, clears}
use Rattle.manual.specs.OneEvent.{for_those}
use Rattle.manual.specs.Memory.{payload_of, renewed_payload, entries_from, entries_of, entries_bytes, memory_of}
use Rattle.manual.specs.Memory.{without}
use Rattle.manual.specs.Memory.{no_twice, victim, pushed_out, admitted, renewed, store}
use Rattle.manual.specs.Calls.{fresh_records, fresh_state, fresh_rules, fresh, report_rules, applied, report}
use Rattle.manual.specs.Calls.{tick_rules, tick, start_rules, start_cycle, stop_rules, stop_cycle}
use Rattle.manual.specs.Calls.{report_log, tick_log, stop_log, applied_did}
use Rattle.manual.specs.Counts.{log_below, raised, past}
use Rattle.manual.specs.Image.{image_from, image_in, image_of, state_in, widened, acceptable_in, acceptable, state_of}
use Rattle.manual.specs.Image.{restore_rules, restore}
use Rattle.manual.specs.MarkedExamples.{zeroed, blank, replayed, e1_to_e10, e11, e12, table}

-- the table is what its calls make
pub e1_to_e12 : replayed table ≡ table
unfolding table e1_to_e10 e11 e12 holds well_formed_record all_below for_below first_of those equal between smaller larger
    events places frame_bytes column row_ok config_ok stored_at with_stored lengths_fit_with d_fits memory_ok_with well_formed_with
    first_that_applies Answers.judged top bottom verdict_at leaves_at internal_report counter_up counter_down counter_report
    time_report reported ticked happens entry_leaves keeps memory_told fails stops clears for_those entries_from entries_of
    payload_of renewed_payload entries_bytes memory_of without no_twice victim pushed_out admitted renewed store
    fresh_records fresh_state fresh_rules
    fresh report_rules applied report tick_rules tick start_rules start_cycle stop_rules stop_cycle in_set none_missing
    report_log tick_log stop_log log_below applied_did fails_did count_those raised past
e1_to_e12 = refl

-- ---- "Fresh with n = 2", which document 01 gives as part of "Saved image", not among the examples that are "run only"

abbrev pair : Configuration
pair = pos 2 ∷ pos 1 ∷ pos 0 ∷ (internal_row 1 ++ internal_row 2)
  where
    internal_row : ℕ → List ℤ
    internal_row code =
        pos code ∷ pos 1 ∷ pos 0 ∷ pos 0 ∷ pos 0 ∷ pos 0 ∷ pos 0 ∷ pos 0 ∷ pos 0 ∷ pos 1 ∷ pos 1 ∷ pos 1 ∷ pos 0
        ∷ pos 0 ∷ []

-- with this edition
abbrev fresh_image : ℕ → List ℕ
fresh_image edition =
    0x03 ∷ edition ∷ 0x01 ∷ 0x00 ∷ 0x00 ∷ 0x14 ∷ 0x00 ∷ 0x08 ∷ 0x02 ∷ 0x00 ∷ 0x00 ∷ 0x1C ∷ 0x00 ∷ 0x01 ∷ 0x03 ∷ 0x00
    ∷ 0x00 ∷ 0x1D ∷ 0x00 ∷ 0x01
    ∷ 0x50 ∷ 0x00 ∷ 0x00 ∷ 0x00 ∷ 0x50 ∷ 0x00 ∷ 0x00 ∷ 0x00 ∷ 0x00 ∷ 0x00 ∷ []

-- document 02, W6: "Saving always writes edition 2"
pub image_of_fresh : image_of pair (fresh_state pair) ≡ fresh_image 0x02
unfolding image_from image_in fresh_state fresh_records events places frame_bytes
image_of_fresh = refl

abbrev RestoresFresh : ℕ → Type 0
RestoresFresh edition =
    restore pair (fresh_image edition) zeroed (blank pair) ≡ Answers.done zeroed (fresh_state pair)

pub restored_fresh : RestoresFresh 0x02
unfolding restore restore_rules acceptable acceptable_in state_of state_in widened equal image_from image_in fresh_state
    fresh_records events places frame_bytes holds well_formed_record all_below those between column row_ok config_ok top bottom
    entries_from entries_of no_twice stored_at lengths_fit_with d_fits memory_ok_with well_formed_with first_that_applies
    Answers.judged
restored_fresh = refl

-- "an edition 1 image is accepted too"
pub restored_fresh_1 : RestoresFresh 0x01
unfolding restore restore_rules acceptable acceptable_in state_of state_in widened equal image_from image_in fresh_state
    fresh_records events places frame_bytes holds well_formed_record all_below those between column row_ok config_ok top bottom
    entries_from entries_of entries_bytes memory_of no_twice stored_at lengths_fit_with d_fits memory_ok_with well_formed_with
    first_that_applies Answers.judged
restored_fresh_1 = refl
