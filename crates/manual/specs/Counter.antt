-- Document 02, W1, "Show how near a fault is": the fault detection counter of an event, and the call that reads it.
-- Assumes nothing.
use Rattle.std.specs.Prelude.{true, not, cond, List, [], ◌∷◌, ℕ, ◌-◌, ◌*◌, ◌/◌, eqb, ℤ, pos, negsuc, neg_ℤ, nat_abs}
use Rattle.std.specs.Int.Signed.{non_neg}
use Rattle.history.specs.StatusByte.{test_failed, test_not_completed_since_last_clear, Status}
use Rattle.manual.specs.Configuration.{Configuration, is_internal, is_time, low_of, high_of}
use Rattle.manual.specs.State.{State, record_of, D}
use Rattle.manual.specs.Answers.{Beside, Outcome, Rule, ◌if◌, judged, done}
use Rattle.manual.specs.Calls.{begins, no_such_event}

-- ---- the counter

-- "Kind 0: 127 when bit 0 is set, else −128 when bit 4 is clear, else 0."
unfoldable pub internal_counter : Status → ℤ
internal_counter s = cond (s test_failed) (pos 127) (cond (not (s test_not_completed_since_last_clear)) (negsuc 127) (pos 0))

-- "… rounded down": the part of a whole that a distance has of its end
abbrev pub share : ℕ → ℕ → ℤ → ℕ
share whole size end = whole * size / nat_abs end

module _ (cfg : Configuration) (e : ℕ) where
  -- "Time kind: the same with |D| − 1 in place of |D|, and 0 when D is 0.": of a count, 0 less 1 is 0
  abbrev pub distance : ℤ → ℕ
  distance d = cond (is_time cfg e) (nat_abs d - 1) (nat_abs d)

  -- "Counter kind: 127·D/Q rounded down for D ≥ 0, and minus (128·|D|/|P| rounded down) below 0."
  unfoldable pub debounced_counter : ℤ → ℤ
  debounced_counter d =
      cond (non_neg d) (pos (share 127 (distance d) (high_of cfg e)))
      (neg_ℤ (pos (share 128 (distance d) (low_of cfg e))))

  unfoldable pub counter_of : ℤ → Status → ℤ
  counter_of d s = cond (is_internal cfg e) (internal_counter s) (debounced_counter d)

module _ (cfg : Configuration) where
  -- the counter of event e in a state
  unfoldable pub counter_in : State → ℕ → ℤ
  counter_in s e = counter_of cfg e (D s e) (record_of s e).status

  -- ---- read counter: refusals as those of read status

  unfoldable pub read_counter_rules : ℕ → State → List Rule
  read_counter_rules e s = begins cfg s true ((4 if no_such_event cfg e) ∷ [])

  unfoldable pub read_counter : ℕ → Beside → State → Outcome
  read_counter e b s = judged (read_counter_rules e s) b s (done b s)

-- the outcome, and the counter, which has a sign
pub record CounterRead : Type 0 where
  pub outcome : Outcome
  pub counter : ℤ

-- "any status, count or length it answers is 0": so is the counter beside a refusal
abbrev pub counted : Outcome → ℤ → CounterRead
counted o z = record { outcome = o; counter = cond (eqb o.answer 0) z (pos 0) }

unfoldable pub counter_read : Configuration → ℕ → Beside → State → CounterRead
counter_read cfg e b s = counted (read_counter cfg e b s) (counter_in cfg s e)
