-- Document 02, W7, "Where did the entry go?": what becomes of entries, as a log of happenings, and the five counts of
-- it. What each call adds to the log stands beside the call. Assumes nothing.
use Rattle.std.specs.Prelude.{◌≡◌, Bool, true, false, ◌&&◌, cond, List, [], ◌∷◌, ◌++◌, map, ℕ, zero, suc, ◌+◌, length, eqb, ltb}
use Rattle.history.specs.Words.{any_of}
use Rattle.history.specs.StatusByte.{ages_at_stop}
use Rattle.manual.specs.declared.Rise.{Rise}
use Rattle.manual.specs.declared.StoreAnswer.{StoreAnswer}
use Rattle.manual.specs.declared.StoreAnswer.TheVariants.{Untold, Renewed, Added, Displaced, NotStored}
use Rattle.manual.specs.Words.{for_below, count_those}
use Rattle.manual.specs.Configuration.{Configuration, events, limits_of}
use Rattle.manual.specs.State.{State, record_of}
use Rattle.manual.specs.Memory.{Entry, event_of}
use Rattle.manual.specs.Answers.{Beside, with_counts}
use Rattle.manual.specs.OneEvent.{has_entry}

-- ---- what becomes of an event's entry

-- "entries admitted, pushed out, aged, cleared, and failures not stored", each of an event
pub data Happening : Type 0 where
  was_admitted was_pushed_out has_aged was_cleared was_not_stored : ℕ → Happening

abbrev pub event_in : Happening → ℕ
event_in (was_admitted e) = e
event_in (was_pushed_out e) = e
event_in (has_aged e) = e
event_in (was_cleared e) = e
event_in (was_not_stored e) = e

-- the place of its count in that order
abbrev pub place_of : Happening → ℕ
place_of (was_admitted e) = 0
place_of (was_pushed_out e) = 1
place_of (has_aged e) = 2
place_of (was_cleared e) = 3
place_of (was_not_stored e) = 4

-- "stored anew or leaving so"
abbrev pub is_admission : Happening → Bool
is_admission (was_admitted e) = true
is_admission (was_pushed_out e) = false
is_admission (has_aged e) = false
is_admission (was_cleared e) = false
is_admission (was_not_stored e) = false

abbrev pub is_leaving : Happening → Bool
is_leaving (was_admitted e) = false
is_leaving (was_pushed_out e) = true
is_leaving (has_aged e) = true
is_leaving (was_cleared e) = true
is_leaving (was_not_stored e) = false

-- ---- the log, the newest first

-- what rules 1 to 4 do at a fresh failure of e: by 1 the entry that is there moves to the end, so nothing is stored
-- anew; by 2 e's is appended; by 3 the victim is taken out, then e's appended; by 4 the failure is not stored
abbrev pub of_store : ℕ → StoreAnswer → List Happening
of_store e Untold = []
of_store e Renewed = []
of_store e Added = was_admitted e ∷ []
of_store e (Displaced v) = was_admitted e ∷ was_pushed_out v.0 ∷ []
of_store e NotStored = was_not_stored e ∷ []

-- beside for_below: what each part adds, by the state that the parts before it left
unfoldable pub log_below : {S : Type 0} → ℕ → (ℕ → S → S) → (ℕ → S → List Happening) → S → List Happening
log_below zero f g s = []
log_below (suc n) f g s = g n (for_below n f s) ++ log_below n f g s

-- a log that begins with entries that are there: each was admitted; in the order of the entries, so the oldest first
abbrev pub present_log : List Entry → List Happening
present_log xs = map (λ x. was_admitted (event_of x)) xs

module _ (cfg : Configuration) where
  -- beside for_those
  abbrev pub log_those : (ℕ → Bool) → (ℕ → State → State) → (ℕ → State → List Happening) → State → List Happening
  log_those p f g s = log_below (events cfg) (λ e u. cond (p e) (f e u) u) (λ e u. cond (p e) (g e u) []) s

  -- the event's entry leaves, where it has one
  abbrev pub leaves_log : (ℕ → Happening) → ℕ → State → List Happening
  leaves_log how e s = cond (has_entry cfg s e) (how e ∷ []) []

  -- "at A the event ages: …, its entry leaves memory"
  abbrev pub stops_log : ℕ → State → List Happening
  stops_log e s = cond (ages_at_stop (limits_of cfg e) (record_of s e)) (leaves_log has_aged e s) []

  -- "each covered event …, its entry leaves"
  abbrev pub clears_log : ℕ → State → List Happening
  clears_log e s = leaves_log was_cleared e s

-- ---- the counts

-- how many of a kind
abbrev pub count_of : ℕ → List Happening → ℕ
count_of place log = count_those (λ h. eqb (place_of h) place) log

-- "Keep five counts, …: entries admitted, pushed out, aged, cleared, and failures not stored."
abbrev pub rise_of : List Happening → List ℕ
rise_of log = count_of 0 log ∷ count_of 1 log ∷ count_of 2 log ∷ count_of 3 log ∷ count_of 4 log ∷ []

-- the same five, as code hands them on
abbrev pub numbers : Rise → List ℕ
numbers r = r.admitted ∷ r.pushed_out ∷ r.aged ∷ r.cleared ∷ r.not_stored ∷ []

-- the counts with a rise
unfoldable pub raised : List ℕ → List ℕ → List ℕ
raised [] counts = []
raised (x ∷ rise) [] = []
raised (x ∷ rise) (k ∷ counts) = (x + k) ∷ raised rise counts

-- "each 32 bits": "4,294,967,295"
abbrev pub most_count : ℕ
most_count = 4294967295

-- "any count past 4,294,967,295"
unfoldable pub past : List ℕ → Bool
past counts = any_of (λ k. ltb most_count k) counts

-- "whose whole rise would carry any count past 4,294,967,295"
abbrev pub carries_past : List Happening → List ℕ → Bool
carries_past log counts = past (raised (rise_of log) counts)

-- the counts that a call leaves which adds its whole rise
abbrev pub with_rise : List Happening → Beside → Beside
with_rise log b = with_counts (raised (rise_of log) b.counts) b

-- "lent as a slice of five"
abbrev pub counts_fit : List ℕ → Bool
counts_fit counts = eqb (length counts) 5

-- "A fresh state zeroes all five."
abbrev pub no_counts : List ℕ
no_counts = 0 ∷ 0 ∷ 0 ∷ 0 ∷ 0 ∷ []

-- "A restore sets admitted to the entries present and the rest to 0"
abbrev pub present_counts : List Entry → List ℕ
present_counts xs = length xs ∷ 0 ∷ 0 ∷ 0 ∷ 0 ∷ []

-- ---- the log against the entries, of the events that pass a test: of one event, or of all

module _ (p : ℕ → Bool) where
  abbrev pub present_of : List Entry → ℕ
  present_of xs = count_those (λ x. p (event_of x)) xs

  abbrev pub admissions_of : List Happening → ℕ
  admissions_of log = count_those (λ h. is_admission h && p (event_in h)) log

  abbrev pub leavings_of : List Happening → ℕ
  leavings_of log = count_those (λ h. is_leaving h && p (event_in h)) log

  -- those after and those that left are those before and those admitted
  abbrev pub Accounts : List Happening → List Entry → List Entry → Type 0
  Accounts log before after = present_of after + leavings_of log ≡ present_of before + admissions_of log
