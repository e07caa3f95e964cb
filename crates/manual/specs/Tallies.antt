-- Document 02, W7: sequences of calls in which each call is lent the counts that the one before left, with the log of
-- what became of entries since the fresh state or the restore that they go on from. Assumes nothing.
use Rattle.std.specs.Prelude.{◌≡◌, Bool, true, false, ◌&&◌, cond, List, ◌++◌, ℕ, eqb}
use Rattle.history.specs.History.{History}
use Rattle.manual.specs.Configuration.{Configuration}
use Rattle.manual.specs.State.{State}
use Rattle.manual.specs.WellFormed.{entries}
use Rattle.manual.specs.Answers.{Beside, lent_both, Outcome}
use Rattle.manual.specs.Counts.{Happening, present_log}
use Rattle.manual.specs.Calls.{fresh}
use Rattle.manual.specs.Image.{save, restore}
use Rattle.manual.specs.Sequences.{Call, Fresh, Report, Tick, Start, Stop, Clear, Read, Restore, Request}
use Rattle.manual.specs.Sequences.{saved_image, outcome, log_at, carries_on, Reached}

-- "five counts, … lent as a slice of five": the calls that are lent them
abbrev pub takes_counts : Call → Bool
takes_counts Fresh = true
takes_counts (Report k code frame present) = true
takes_counts (Tick ms frame present) = true
takes_counts (Start c) = false
takes_counts (Stop c) = true
takes_counts (Clear code) = true
takes_counts (Read q) = false
takes_counts (Restore image) = true
takes_counts (Request bytes) = true

-- a state, the counts that were left with it, and the log, the newest first
pub record Tally : Type 0 where
  pub state : State
  pub counts : List ℕ
  pub log : List Happening

-- what a call left, with this log
abbrev pub tally_of : Outcome → List Happening → Tally
tally_of o log = record { state = o.state; counts = o.beside.counts; log = log }

module _ (cfg : Configuration) where
  -- the call takes counts and is accepted
  abbrev pub counting : Call → Beside → State → Bool
  counting c b s = takes_counts c && eqb (outcome cfg c b s).answer 0

  -- any other, whatever counts are lent, leaves the counts that were left, and the log
  abbrev pub aside : Call → Beside → State → Tally → Tally
  aside c b s t = record { state = (outcome cfg c b s).state; counts = t.counts; log = t.log }

  -- "A restore sets admitted to the entries present and the rest to 0; the equation continues from there": an accepted
  -- fresh or restore begins the log anew, with the entries present, each admitted; after a fresh there are none
  abbrev pub anew : Outcome → Tally
  anew o = tally_of o (present_log (entries cfg o.state))

  -- any other call adds what becomes of entries in it; a refused one adds nothing
  abbrev pub after : Call → Beside → State → List Happening → Tally
  after c b s log =
      cond (carries_on cfg c b s) (tally_of (outcome cfg c b s) (log_at cfg c b s ++ log)) (anew (outcome cfg c b s))

  pub data Tallied : Tally → Type 0 where
    -- a fresh or a restore that is accepted, on any blocks and board, and of any image, with any counts
    begun : (c : Call) (b : Beside) (s : State) → carries_on cfg c b s ≡ false → Tallied (anew (outcome cfg c b s))
    -- then any call with any arguments, accepted or refused, in any room, lent the counts that were left
    called : {t : Tally} → Tallied t → (c : Call) (room : List ℕ)
        → Tallied (after c (lent_both room t.counts) t.state t.log)
    -- or a call that takes no counts, or is refused, with anything lent beside the state
    passed_by : {t : Tally} → Tallied t → (c : Call) (b : Beside) → counting c b t.state ≡ false
        → Tallied (aside c b t.state t)

  -- condition 3's sequences, where each call is lent the counts that the one before left: what is left with such a
  -- sequence
  pub data Leaves : (s : State) → (H : ℕ → History) → Reached cfg s H → Tally → Type 0 where
    begun_fresh : (b : Beside) (s : State) (z : (fresh cfg b s).answer ≡ 0)
        → Leaves _ _ (Reached.begun b s z) (anew (fresh cfg b s))
    after_call : {s : State} {H : ℕ → History} {r : Reached cfg s H} {t : Tally} → Leaves s H r t
        → (c : Call) (b : Beside) (g : carries_on cfg c b s ≡ true) → b.counts ≡ t.counts
        → Leaves _ _ (Reached.called r c b g) (tally_of (outcome cfg c b s) (log_at cfg c b s ++ t.log))
    after_aside : {s : State} {H : ℕ → History} {r : Reached cfg s H} {t : Tally} → Leaves s H r t
        → (c : Call) (b : Beside) (g : carries_on cfg c b s ≡ true) → counting c b s ≡ false
        → Leaves _ _ (Reached.called r c b g) (aside c b s t)
    after_restore : {s : State} {H : ℕ → History} {r : Reached cfg s H} {t : Tally} → Leaves s H r t
        → (b : Beside) (z : (save cfg b s).answer ≡ 0) (b' : Beside) (s' : State)
        (a : (restore cfg (saved_image (save cfg b s)) b' s').answer ≡ 0)
        → Leaves _ _ (Reached.restored r b z b' s' a) (anew (restore cfg (saved_image (save cfg b s)) b' s'))
