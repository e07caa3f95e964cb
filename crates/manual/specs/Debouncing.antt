-- Document 01, "Debouncing". Assumes nothing.
use Rattle.std.specs.Prelude.{Bool, ◌&&◌, ◌||◌, cond, ℕ, ℤ, pos, negsuc, ◌+ℤ◌, ◌-ℤ◌, eqb}
use Rattle.std.specs.Int.Signed.{le_z, lt_z}
use Rattle.manual.specs.declared.Verdict.{Verdict}
use Rattle.manual.specs.declared.Verdict.TheVariants.{None, Passed, Failed}
use Rattle.manual.specs.Words.{smaller, larger, eq_z}
use Rattle.manual.specs.Configuration.{Configuration, is_internal, is_counter, is_time}
use Rattle.manual.specs.Configuration.{low_of, high_of, up_of, down_of, jumps_of}

-- "Codes: 0 passed, 1 failed, 2 pre-passed, 3 pre-failed."
abbrev pub code_passed : ℕ
code_passed = 0

abbrev pub code_failed : ℕ
code_failed = 1

abbrev pub code_pre_passed : ℕ
code_pre_passed = 2

abbrev pub code_pre_failed : ℕ
code_pre_failed = 3

-- the new D, and the verdict
pub record Debounced : Type 0 where
  pub number : ℤ
  pub verdict : Verdict

module _ (cfg : Configuration) (e : ℕ) where
  -- "at its top (Q, Q+1)", "at its bottom (P, P−1)"
  unfoldable pub top : ℤ
  top = cond (is_time cfg e) (high_of cfg e +ℤ pos 1) (high_of cfg e)

  unfoldable pub bottom : ℤ
  bottom = cond (is_time cfg e) (low_of cfg e -ℤ pos 1) (low_of cfg e)

  -- "Verdict, kinds 1 and 2: failed if the report leaves D at its top (Q, Q+1), passed if at its bottom (P, P−1), else
  -- none."
  unfoldable pub verdict_at : ℤ → Verdict
  verdict_at d = cond (eq_z d top) Failed (cond (eq_z d bottom) Passed None)

  unfoldable pub leaves_at : ℤ → Debounced
  leaves_at d = record { number = d; verdict = verdict_at d }

  -- "Kind 0: passed and failed are the verdict; D stays 0."
  unfoldable pub internal_report : ℕ → ℤ → Debounced
  internal_report code d =
      record { number = d; verdict = cond (eqb code code_failed) Failed (cond (eqb code code_passed) Passed None) }

  -- "jumps 1 = jump up, 2 = jump down, 3 = both"
  abbrev pub jump_up : Bool
  jump_up = eqb (jumps_of cfg e) 1 || eqb (jumps_of cfg e) 3

  abbrev pub jump_down : Bool
  jump_down = eqb (jumps_of cfg e) 2 || eqb (jumps_of cfg e) 3

  -- "Pre-failed: start from D, or from 0 if jump up is on and D < 0; add up; cap at Q."
  unfoldable pub counter_up : ℤ → ℤ
  counter_up d = smaller (cond (jump_up && lt_z d (pos 0)) (pos 0) d +ℤ up_of cfg e) (high_of cfg e)

  -- "Pre-passed: start from D, or from 0 if jump down is on and D > 0; subtract down; hold at P."
  unfoldable pub counter_down : ℤ → ℤ
  counter_down d = larger (cond (jump_down && lt_z (pos 0) d) (pos 0) d -ℤ down_of cfg e) (low_of cfg e)

  -- "Kind 1: failed sets D = Q, passed sets D = P."
  unfoldable pub counter_report : ℕ → ℤ → ℤ
  counter_report code d =
      cond (eqb code code_failed) (high_of cfg e)
      (cond (eqb code code_passed) (low_of cfg e)
      (cond (eqb code code_pre_failed) (counter_up d)
      (counter_down d)))

  -- "Kind 2: failed sets D = Q+1, passed D = P−1. Pre-failed: D = 1 if D ≤ 0, else unchanged. Pre-passed: D = −1 if D ≥
  -- 0, else unchanged."
  unfoldable pub time_report : ℕ → ℤ → ℤ
  time_report code d =
      cond (eqb code code_failed) (high_of cfg e +ℤ pos 1)
      (cond (eqb code code_passed) (low_of cfg e -ℤ pos 1)
      (cond (eqb code code_pre_failed) (cond (le_z d (pos 0)) (pos 1) d)
      (cond (le_z (pos 0) d) (negsuc 0) d)))

  -- a report to an event with this D
  unfoldable pub reported : ℕ → ℤ → Debounced
  reported code d =
      cond (is_internal cfg e) (internal_report code d)
      (cond (is_counter cfg e) (leaves_at (counter_report code d))
      (leaves_at (time_report code d)))

  -- "Tick of d ms": "0 < D < Q+1 becomes the smaller of D+d and Q+1 (verdict failed if Q+1); P−1 < D < 0 the larger of
  -- D−d and P−1 (passed if P−1)"; any other D stays, with no verdict
  unfoldable pub ticked : ℕ → ℤ → Debounced
  ticked ms d =
      cond (lt_z (pos 0) d && lt_z d top) (leaves_at (smaller (d +ℤ pos ms) top))
      (cond (lt_z bottom d && lt_z d (pos 0)) (leaves_at (larger (d -ℤ pos ms) bottom))
      (record { number = d; verdict = None }))
