-- Document 02, W5, "Add a query": which of the conditions that an event needs are still missing. Assumes nothing.
use Rattle.std.specs.Prelude.{true, cond, List, [], ◌∷◌, ℕ, eqb}
use Rattle.manual.specs.declared.Verdict.TheVariants.{None}
use Rattle.manual.specs.Configuration.{Configuration, needed_of}
use Rattle.manual.specs.State.{State}
use Rattle.manual.specs.Answers.{Beside, Outcome, Rule, ◌if◌, judged}
use Rattle.manual.specs.Conditions.{missing_of, lowest_missing_of}
use Rattle.manual.specs.Calls.{begins, no_such_event}

module _ (cfg : Configuration) where
  -- ---- read missing: 2, 3, "4 for an unknown event"

  unfoldable pub read_missing_rules : ℕ → State → List Rule
  read_missing_rules e s = begins cfg s true ((4 if no_such_event cfg e) ∷ [])

  -- the value is "how many of the conditions it needs are still missing"
  unfoldable pub read_missing : ℕ → ℕ → Beside → State → Outcome
  read_missing e present b s =
      judged (read_missing_rules e s) b s
      (record {
        answer = 0;
        verdict = None;
        value = missing_of (needed_of cfg e) present;
        part = [];
        beside = b;
        state = s;
      })

-- the outcome, and "the lowest missing number"
pub record MissingRead : Type 0 where
  pub outcome : Outcome
  pub lowest : ℕ

-- "a refusal (4 for an unknown event) answers 0 and 0"
abbrev pub told : Outcome → ℕ → MissingRead
told o lowest = record { outcome = o; lowest = cond (eqb o.answer 0) lowest 0 }

unfoldable pub missing_read : Configuration → ℕ → ℕ → Beside → State → MissingRead
missing_read cfg e present b s =
    told (read_missing cfg e present b s) (lowest_missing_of (needed_of cfg e) present)
