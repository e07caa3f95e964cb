-- The log played: the state "of the machine after the last call", and what is counted on the way. Assumes nothing.
use Rattle.std.specs.Prelude.{◌≡◌, Bool, true, false, not, cond, List, ℕ, zero, suc, ◌+◌, eqb, ℤ, length}
use Rattle.manual.specs.declared.Board.{Board}
use Rattle.manual.specs.Configuration.{Configuration, config_ok}
use Rattle.manual.specs.State.{State, lent}
use Rattle.manual.specs.WellFormed.{lengths_fit}
use Rattle.manual.specs.Calls.{fresh_state}
use Rattle.manual.specs.Sequences.{outcome}
use Rattle.transcript.specs.declared.Cursor.{Cursor}
use Rattle.replay_step.specs.declared.Call.{Call}
use Rattle.replay_step.specs.declared.Asked.{Asked}
use Rattle.replay_step.specs.declared.Asked.TheVariants.{Makes, Nothing}
use Rattle.replay_step.specs.Asked.{asked_at}
use Rattle.replay_step.specs.Turn.{lent_each, Made, made_by_call, call_is, zero_frame}
use Rattle.page_story.specs.declared.Played.{Played}

-- how far the log is played: the state; the place behind the last call, and whether a further call may follow; how many
-- calls were made, how many of them were refused, and what the last was answered with; whether what follows cannot be
-- read
pub record Progress : Type 0 where
  pub state : State
  pub at : ℕ
  pub more : Bool
  pub made : ℕ
  pub refused : ℕ
  pub last : ℕ
  pub bad : Bool

-- before the first call, which is looked for from `at` on
abbrev pub at_first : State → ℕ → Progress
at_first s at = record { state = s; at = at; more = true; made = 0; refused = 0; last = 0; bad = false }

-- a call with any answer but 0 is refused
abbrev pub after_call : Progress → Cursor → Made → Progress
after_call p next m =
    record {
      state = m.state;
      at = next.at;
      more = true;
      made = p.made + 1;
      refused = cond (not (eqb m.answer 0)) (p.refused + 1) p.refused;
      last = m.answer;
      bad = false;
    }

abbrev pub ended : Progress → State → Bool → Progress
ended p s bad =
    record {
      state = s;
      at = p.at;
      more = false;
      made = p.made;
      refused = p.refused;
      last = p.last;
      bad = bad;
    }

-- a call of the log is made as the replay program makes it
abbrev pub makes : Configuration → Call → State → Made
makes cfg call s = made_by_call (outcome cfg (call_is (zero_frame cfg) call) lent_each s)

module _ (cfg : Configuration) (log : List ℕ) where
  -- "unreadable calls: a page that says so"
  abbrev pub after_asked : Progress → Asked → Progress
  after_asked p (Makes call next) = after_call p next (makes cfg call p.state)
  after_asked p Nothing = ended p p.state false
  after_asked p Asked.Unreadable = ended p p.state true

  unfoldable pub one_turn : Progress → Progress
  one_turn p = after_asked p (asked_at p.at log)

  unfoldable pub carries_on : Progress → Progress
  carries_on p = cond p.more (one_turn p) p

  unfoldable pub turns : ℕ → Progress → Progress
  turns zero p = p
  turns (suc k) p = carries_on (turns k p)

  -- the whole log, whose calls begin at `at`: each call takes a byte at least, so that none is left after as many turns
  -- as there are bytes (`played_to_the_end`)
  unfoldable pub played : ℕ → Progress
  played at = turns (length log) (at_first (fresh_state cfg) at)

-- ---- what the code carries, beside the state

abbrev pub so_far : State → Played → Progress
so_far s p =
    record {
      state = s;
      at = p.next.at;
      more = p.more;
      made = p.made;
      refused = p.refused;
      last = p.last;
      bad = p.bad;
    }

-- ---- what the code asks: an accepted configuration, and blocks of its lengths

pub record Blocks (cfg : Configuration) (records : List ℕ) (debounce : List ℤ) (memory : List ℕ) : Type 0 where
  pub accepted : config_ok cfg ≡ true
  pub fit : (b : Board) → lengths_fit cfg (lent records debounce memory b) ≡ true
