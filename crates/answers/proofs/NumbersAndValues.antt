-- What an answer tells, by document 01, "Numbers a call answers with": its number is what `number` gives, and the value
-- beside it what the library's `unwrap_or` gives with the value of a refusal: "any status, count or length it answers is
-- 0, … a verdict none"; "a refusal … paints grey"; "a refusal … answers 0 and 0".
use mathlib.Core.Path.{◌≡◌, refl}
use Prim.Native.Nat.{ℕ}
use lib.IntN.{ℤ, pos}
use Rattle.std.specs.Prelude.{Result, Ok, Err, ⊤}
use Rattle.std.specs.Result.{result_unwrap_or}
use Rattle.manual.specs.declared.FramePart.{FramePart}
use Rattle.manual.specs.declared.Paint.{Paint}
use Rattle.manual.specs.declared.Paint.TheVariants.{Grey}
use Rattle.manual.specs.declared.Refusal.{Refusal}
use Rattle.manual.specs.declared.StillMissing.{StillMissing}
use Rattle.manual.specs.declared.Verdict.{Verdict}
use Rattle.manual.specs.declared.Verdict.TheVariants.{None}
use Rattle.manual.specs.Answers.{number_answered, of_answer, of_report, of_status, of_counter, counter_answered}
use Rattle.manual.specs.Answers.{of_missing, lowest_answered, of_paint, paint_answered, of_frame, of_length}

-- ---- fresh, tick, start, stop, clear and restore

pub answer_number : (a : Result ⊤ Refusal) → number_answered a ≡ (of_answer a).number
answer_number (Ok t) = refl
answer_number (Err r) = refl

-- ---- report

pub report_number : (a : Result Verdict Refusal) → number_answered a ≡ (of_report a).number
report_number (Ok v) = refl
report_number (Err r) = refl

pub report_verdict : (a : Result Verdict Refusal) → result_unwrap_or a None ≡ (of_report a).verdict
report_verdict (Ok v) = refl
report_verdict (Err r) = refl

-- ---- read status

pub status_number : (a : Result ℕ Refusal) → number_answered a ≡ (of_status a).number
status_number (Ok byte) = refl
status_number (Err r) = refl

pub status_byte : (a : Result ℕ Refusal) → result_unwrap_or a 0 ≡ (of_status a).value
status_byte (Ok byte) = refl
status_byte (Err r) = refl

-- ---- read counter

pub counter_number : (a : Result ℤ Refusal) → number_answered a ≡ (of_counter a).number
counter_number (Ok z) = refl
counter_number (Err r) = refl

pub counter : (a : Result ℤ Refusal) → result_unwrap_or a (pos 0) ≡ counter_answered a
counter (Ok z) = refl
counter (Err r) = refl

-- ---- read missing

-- "answers 0 and 0"
abbrev pub none_told : StillMissing
none_told = record { count = 0; lowest = 0 }

pub missing_number : (a : Result StillMissing Refusal) → number_answered a ≡ (of_missing a).number
missing_number (Ok still) = refl
missing_number (Err r) = refl

pub missing_count : (a : Result StillMissing Refusal) → (result_unwrap_or a none_told).count ≡ (of_missing a).value
missing_count (Ok still) = refl
missing_count (Err r) = refl

pub lowest_missing : (a : Result StillMissing Refusal) → (result_unwrap_or a none_told).lowest ≡ lowest_answered a
lowest_missing (Ok still) = refl
lowest_missing (Err r) = refl

-- ---- read paint

pub paint_number : (a : Result Paint Refusal) → number_answered a ≡ (of_paint a).number
paint_number (Ok p) = refl
paint_number (Err r) = refl

pub paint : (a : Result Paint Refusal) → result_unwrap_or a Grey ≡ paint_answered a
paint (Ok p) = refl
paint (Err r) = refl

-- ---- read frame

pub frame_number : (a : Result FramePart Refusal) → number_answered a ≡ (of_frame a).number
frame_number (Ok part) = refl
frame_number (Err r) = refl

-- ---- save, a diagnostic request and list grey

pub length_number : (a : Result ℕ Refusal) → number_answered a ≡ (of_length a).number
length_number (Ok length) = refl
length_number (Err r) = refl

pub written_length : (a : Result ℕ Refusal) → result_unwrap_or a 0 ≡ (of_length a).value
written_length (Ok length) = refl
written_length (Err r) = refl
