-- Document 01, "The same byte, read off the history": one event's history, the newest first, and the eight bits read
-- off it. No status, K, h or g runs along here: each reading looks at the whole history. Assumes nothing.
use Rattle.std.specs.Prelude.{Bool, not, ◌&&◌, ◌||◌, List, [], ◌∷◌, ℕ, ◌≤◌, leb, eqb}
use Rattle.history.specs.Words.{any_of, all_of, count_of, since, some_with, last_of, cut_at}
use Rattle.history.specs.StatusByte.{test_failed, test_failed_this_operation_cycle, pending_dtc, confirmed_dtc}
use Rattle.history.specs.StatusByte.{test_not_completed_since_last_clear, test_failed_since_last_clear}
use Rattle.history.specs.StatusByte.{test_not_completed_this_operation_cycle, warning_indicator_requested, Status}
use Rattle.history.specs.StatusByte.{EventRecord, Limits, fresh_record, on_passed, on_failed, on_start, on_stop}
use Rattle.history.specs.StatusByte.{on_clear}

-- An event's history is all its qualified results, its cycle's starts and stops, and its clears since the fresh state,
-- the newest first; a token is one of these.
pub data Token : Type 0 where
  passed failed start stop clear : Token

abbrev pub History : Type 0
History = List Token

-- ---- the byte that the rules of "Status byte" make, one thing after the other

abbrev pub step : Limits → Token → EventRecord → EventRecord
step n passed r = on_passed r
step n failed r = on_failed n r
step n start r = on_start r
step n stop r = on_stop n r
step n clear r = on_clear r

unfoldable pub record_after : Limits → History → EventRecord
record_after n [] = fresh_record
record_after n (t ∷ l) = step n t (record_after n l)

-- ---- the words of the reading

-- A moment: one thing that happened, with all that had happened before it.
pub record Moment : Type 0 where
  pub what : Token
  pub before : History

unfoldable pub moments : History → List Moment
moments [] = []
moments (t ∷ l) = record { what = t; before = l } ∷ moments l

abbrev pub number : Token → ℕ
number passed = 0
number failed = 1
number start = 2
number stop = 3
number clear = 4

abbrev pub is : Token → Moment → Bool
is t m = eqb (number m.what) (number t)

abbrev pub is_passed : Moment → Bool
is_passed = is passed

abbrev pub is_failed : Moment → Bool
is_failed = is failed

-- "A verdict other than none is a qualified result."
abbrev pub is_result : Moment → Bool
is_result m = is passed m || is failed m

-- "let L be its last clear (or the fresh state)": what happened since L
unfoldable pub since_l : History → List Moment
since_l l = since (is clear) (moments l)

-- "W the later of L and its cycle's last start": what happened since W
unfoldable pub since_w : History → List Moment
since_w l = since (λ m. is clear m || is start m) (moments l)

-- "A stop is failure-free if no failed result lies after the later of its run's start and the last clear before the
-- stop"
unfoldable pub failure_free : Moment → Bool
failure_free m = is stop m && not (any_of is_failed (since_w m.before))

-- "it is clean if also some passed result lies there"
unfoldable pub clean : Moment → Bool
clean m = failure_free m && any_of is_passed (since_w m.before)

-- what lies "after the later of L and the last clean stop"
unfoldable pub since_clean_stop : History → List Moment
since_clean_stop l = since (λ m. is clear m || clean m) (moments l)

-- "A run goes from a start to its stop."
abbrev pub edge : Moment → Bool
edge m = is start m || is stop m

-- the parts between these: the runs, and between a stop and the next start what lies in no run, which in a legal
-- history holds no result (specs/Legal.antt). "A run begun before L counts only by its failed results after L": of such
-- a run the oldest part is left.
abbrev pub runs_in : List Moment → List (List Moment)
runs_in = cut_at edge

-- "the number of runs holding failed results"
abbrev pub failed_runs : List Moment → ℕ
failed_runs ms = count_of (any_of is_failed) (runs_in ms)

-- what confirms: "A failed result is confirming if the number of runs holding failed results that lie after the later
-- of L and the last clean stop before it, and no later than it, its own run included, is at least C."
unfoldable pub confirming : ℕ → Moment → Bool
confirming C m = is_failed m && leb C (failed_runs (m ∷ since_clean_stop m.before))

-- "stretch (from it or a later failed result to the next failed result or now)": the parts into which the failed
-- results cut what lies after a failed result
abbrev pub stretches : List Moment → List (List Moment)
stretches = cut_at is_failed

-- what a stretch counts for ageing. Document 02, W2: "In the history reading, "A failure-free stops" becomes "A clean
-- stops" in both places."
abbrev pub counted_for_ageing : Moment → Bool
counted_for_ageing = clean

-- what a stretch counts for healing: "clean stops"
abbrev pub counted_for_healing : Moment → Bool
counted_for_healing = clean

-- the stretch does not hold this many of these
abbrev pub fewer : ℕ → (Moment → Bool) → List Moment → Bool
fewer limit p stretch = not (leb limit (count_of p stretch))

abbrev pub not_aged : Limits → List Moment → Bool
not_aged n stretch = fewer n.A counted_for_ageing stretch

abbrev pub not_healed : Limits → List Moment → Bool
not_healed n stretch = fewer n.H counted_for_healing stretch

-- "since L there is a confirming result after which no stretch holds …": every stretch after it passes the test
unfoldable pub confirming_with : ℕ → (List Moment → Bool) → List Moment → Moment → Bool
confirming_with C test after m = confirming C m && all_of test (stretches after)

unfoldable pub standing : ℕ → (List Moment → Bool) → History → Bool
standing C test l = some_with (confirming_with C test) (since_l l)

-- ---- the eight bits

unfoldable pub reading : Limits → History → Status
-- "4: no qualified result since L."
reading n l test_not_completed_since_last_clear = not (any_of is_result (since_l l))
-- "5: a failed one since L."
reading n l test_failed_since_last_clear = any_of is_failed (since_l l)
-- "0: a qualified result exists since L and the last is failed."
reading n l test_failed = last_of is_result is_failed (since_l l)
-- "6: no qualified result since W."
reading n l test_not_completed_this_operation_cycle = not (any_of is_result (since_w l))
-- "1: a failed one since W."
reading n l test_failed_this_operation_cycle = any_of is_failed (since_w l)
-- "2: a failed result since L with no clean stop after it."
reading n l pending_dtc = some_with (λ after m. is_failed m && not (any_of clean after)) (since_l l)
-- "3: since L there is a confirming result after which no stretch … holds", by W2, "A clean stops".
reading n l confirmed_dtc = standing n.C (not_aged n) l
-- "7: indicator 1, and since L a confirming result after which no stretch holds H clean stops or", by W2, "A clean
-- stops".
reading n l warning_indicator_requested =
    n.indicator && standing n.C (λ stretch. not_healed n stretch && not_aged n stretch) l

-- ---- what the configuration's table gives: "C confirm, H heal, A age | 1 to 255", as far as the reading needs it
pub record Allowed (n : Limits) : Type 0 where
  pub C_least : 1 ≤ n.C
  pub C_most : n.C ≤ 255
  pub H_least : 1 ≤ n.H
  pub A_least : 1 ≤ n.A
