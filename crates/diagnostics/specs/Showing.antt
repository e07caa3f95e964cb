-- What the functions that show the event of one trouble code ask and answer: document 02, W4. Assumes nothing.
use Rattle.std.specs.Prelude.{◌≡◌, true, false, List, [], ℕ, ◌+◌, ◌*◌, ◌<◌, ◌≤◌, length}
use Rattle.manual.specs.Configuration.{Configuration, events, entry_frames, config_ok}
use Rattle.manual.specs.State.{State, record_width, lent, all_stopped}
use Rattle.manual.specs.Memory.{Entry, entries_of}
use Rattle.manual.specs.Answers.{lent_room, Outcome}
use Rattle.manual.specs.Diagnostics.{positive, reply_bytes, SubFunction, sub_function, fitted, suppresses, sent}
use Rattle.manual.specs.Diagnostics.{event_asked, frame_told, details_told, shown_bytes, showing}
use Rattle.std.specs.Prelude.{Some, None}
use Rattle.memory.specs.Places.{Find}
use Rattle.memory.specs.Fits.{EntriesFit, PlaceFits}
use Rattle.memory.specs.Places.{place_of}
use Rattle.diagnostics.specs.declared.Told.{Told}
use Rattle.diagnostics.specs.declared.Told.TheVariants.{Frame, Details}
use Rattle.diagnostics.specs.Replies.{Accepted}

-- an event is shown by records and memory alone
abbrev pub remembering : List ℕ → List ℕ → State
remembering records memory = lent records [] memory (record { running = all_stopped; overflow = false })

-- the number of the sub-function
abbrev pub number_of : Told → ℕ
number_of Frame = 0x04
number_of Details = 0x06

module _ (cfg : Configuration) where
  -- what is told of an entry, and in how many bytes
  abbrev pub tells : Told → State → ℕ → Entry → List ℕ
  tells Frame = frame_told cfg
  tells Details = details_told cfg

  abbrev pub told_length : Told → ℕ
  told_length Frame = entry_frames cfg
  told_length Details = 4

  -- the length of the reply, by where the event's entry was found
  abbrev pub shown_length : Told → Find → ℕ
  shown_length told (Some p) = 7 + told_length told
  shown_length told None = 6

  -- the sub-function
  abbrev pub shows_one : Told → SubFunction
  shows_one told =
      sub_function (number_of told) 6
      (λ request s. showing cfg (number_of told) (tells told) (event_asked cfg request s) s)

  -- what a request of the right length leaves that asks for this event
  abbrev pub shown_reply : Told → List ℕ → ℕ → List ℕ → State → Outcome
  shown_reply told request e room s =
      sent cfg
      (reply_bytes 0x19
      (fitted (suppresses cfg request) (length room) (positive (shown_bytes cfg (number_of told) (tells told) e s))))
      (lent_room room) s

  -- ---- what the functions ask for

  -- an event's record and the entries lie within what is lent
  pub record Within (records memory : List ℕ) : Type 0 where
    pub config : config_ok cfg ≡ true
    pub records_as_long : length records ≡ record_width * events cfg
    pub entries_fit : EntriesFit (entry_frames cfg) memory

  -- and the request was accepted
  pub record MayRead (records memory room : List ℕ) : Type 0 where
    pub accepted : Accepted cfg room
    pub within : Within records memory

  -- an event, the place of an entry, and room for these many bytes from `at` on
  pub record MayTell (records memory : List ℕ) (e p at size : ℕ) (room : List ℕ) : Type 0 where
    pub within : Within records memory
    pub event_inside : e < events cfg
    pub place_fits : PlaceFits (entry_frames cfg) memory p
    pub fits : at + size ≤ length room

  -- an event, where its entry was found, and room for its reply
  pub record MayShow (records memory : List ℕ) (e : ℕ) (told : Told) (own : Find) (room : List ℕ) : Type 0 where
    pub within : Within records memory
    pub event_inside : e < events cfg
    pub own_is : own ≡ place_of e (entries_of (entry_frames cfg) memory)
    pub fits : shown_length told own ≤ length room
