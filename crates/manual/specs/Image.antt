-- Document 01, "Saved image", with document 02's edition 2. Assumes nothing.
use Rattle.std.specs.Prelude.{◌≡◌, Bool, true, false, not, ◌&&◌, ◌||◌, cond, List, [], ◌∷◌, ◌++◌, map, ℕ, ◌+◌, ◌-◌, ◌*◌, length, get_or, take, drop, replicate, pos, eqb, ltb}
use Rattle.history.specs.Words.{any_of}
use Rattle.manual.specs.declared.Board.{Board}
use Rattle.manual.specs.declared.Verdict.TheVariants.{None}
use Rattle.manual.specs.Words.{two, equal}
use Rattle.manual.specs.Configuration.{Configuration, events, places, frame_bytes, entry_frames}
use Rattle.manual.specs.State.{State, all_stopped, record_width}
use Rattle.manual.specs.Memory.{Entry, payload_of, entry_width, entry_count, bytes_in_use}
use Rattle.manual.specs.WellFormed.{entries_with, entries, well_formed_with}
use Rattle.manual.specs.OneEvent.{with_entries}
use Rattle.manual.specs.Answers.{Beside, with_room, with_counts, Outcome, done, Rule, ◌if◌, judged}
use Rattle.manual.specs.Counts.{counts_fit, present_counts}
use Rattle.manual.specs.Calls.{begins, begins_with_lengths}

-- "Byte 0 = 3 bodies, byte 1 = edition 1, then three rows of 6"
abbrev pub body_count : ℕ
body_count = 3

abbrev pub header_length : ℕ
header_length = 20

-- "kind (1, 2, 3 in that order)": "1 the records; 2 the entry count and the entries in use; 3 the overflow flag"
abbrev pub kind_records : ℕ
kind_records = 1

abbrev pub kind_memory : ℕ
kind_memory = 2

abbrev pub kind_overflow : ℕ
kind_overflow = 3

-- "kind …, 0, offset (2), length (2)", "Numbers are high byte first."
abbrev pub row : ℕ → ℕ → ℕ → List ℕ
row kind offset size = kind ∷ 0 ∷ (two offset ++ two size)

-- the header of bodies of these lengths, with the edition's number: "Bodies follow without gaps"
abbrev pub header : ℕ → ℕ → ℕ → ℕ → List ℕ
header edition r m o =
    body_count ∷ edition
    ∷ (row kind_records header_length r
    ++ (row kind_memory (header_length + r) m ++ row kind_overflow (header_length + r + m) o))

unfoldable pub image_from : ℕ → List ℕ → List ℕ → List ℕ → List ℕ
image_from edition records memory overflow =
    header edition (length records) (length memory) (length overflow) ++ (records ++ (memory ++ overflow))

-- "5 | … save, any cycle running"
abbrev pub any_runs : Board → Bool
any_runs b = any_of (λ r. r) b.running

-- document 02, W6: "The image gets edition 2; an edition 1 image is accepted too": an edition is its number and the
-- length of its entries' payloads
pub record Edition : Type 0 where
  pub number : ℕ
  pub payload : ℕ

abbrev pub edition : ℕ → ℕ → Edition
edition number payload = record { number = number; payload = payload }

-- an entry with one frame, "its one frame becoming both"
abbrev pub with_both : Entry → Entry
with_both x = record { high = x.high; low = x.low; count = x.count; payload = payload_of x.payload }

module _ (cfg : Configuration) where
  -- of its frames an entry has one in an image of edition 1, and two in one of edition 2
  abbrev pub edition1 : Edition
  edition1 = edition 1 (frame_bytes cfg)

  abbrev pub edition2 : Edition
  edition2 = edition 2 (entry_frames cfg)

  -- "3 the overflow flag (0 or 1)"
  abbrev pub overflow_body : State → List ℕ
  overflow_body s = cond s.board.overflow 1 0 ∷ []

  abbrev pub records_of : List ℕ → List ℕ
  records_of image = take (record_width * events cfg) (drop header_length image)

  abbrev pub after_records : List ℕ → List ℕ
  after_records image = drop (header_length + record_width * events cfg) image

  -- "well-formed states with all cycles stopped", with payloads of W bytes; that a board has four cycles is a fact of
  -- its type in code
  pub record StillWith (W : ℕ) (s : State) : Type 0 where
    pub formed : well_formed_with cfg W s ≡ true
    pub four : length s.board.running ≡ 4
    pub stopped : any_runs s.board ≡ false

  -- ---- the images of one edition

  module _ (ed : Edition) where
    -- "2 the entry count and the entries in use"
    abbrev pub memory_body : State → List ℕ
    memory_body s = take (bytes_in_use ed.payload (entry_count s.memory)) s.memory

    unfoldable pub image_in : State → List ℕ
    image_in s = image_from ed.number s.records (memory_body s) (overflow_body s)

    -- the state, with all cycles stopped, that an image would be the image of

    abbrev pub used_in : List ℕ → ℕ
    used_in image = bytes_in_use ed.payload (entry_count (after_records image))

    unfoldable pub state_in : List ℕ → State
    state_in image = record {
      records = records_of image;
      debounce = replicate (events cfg) (pos 0);
      memory =
          take (used_in image) (after_records image)
          ++ replicate (entry_width ed.payload * (places cfg - entry_count (after_records image))) 0;
      board = record { running = all_stopped; overflow = eqb (get_or (drop (used_in image) (after_records image)) 0 0) 1 };
    }

    -- "Restore accepts exactly the images of well-formed states with all cycles stopped"
    unfoldable pub acceptable_in : List ℕ → Bool
    acceptable_in image = well_formed_with cfg ed.payload (state_in image) && equal (image_in (state_in image)) image

  -- ---- W6: the image of a state is of edition 2; restore takes both editions

  abbrev pub Still : State → Type 0
  Still s = StillWith (entry_frames cfg) s

  -- "Saving always writes edition 2"
  abbrev pub image_of : State → List ℕ
  image_of s = image_in edition2 s

  -- "an edition 1 image is accepted too, its one frame becoming both"
  unfoldable pub widened : State → State
  widened s = with_entries cfg (map with_both (entries_with cfg (frame_bytes cfg) s)) s

  unfoldable pub acceptable : List ℕ → Bool
  acceptable image = acceptable_in edition2 image || acceptable_in edition1 image

  unfoldable pub state_of : List ℕ → State
  state_of image = cond (acceptable_in edition2 image) (state_in edition2 image) (widened (state_in edition1 image))

  -- ---- save: "save 5, 7"

  unfoldable pub save_rules : Beside → State → List Rule
  save_rules b s =
      begins cfg s true ((5 if any_runs s.board) ∷ (7 if ltb (length b.room) (length (image_of s))) ∷ [])

  -- "Save writes the image, no more, and answers its length."
  abbrev pub saved : List ℕ → Beside → State → Outcome
  saved image b s = record {
    answer = 0;
    verdict = None;
    value = length image;
    part = [];
    beside = with_room (image ++ drop (length image) b.room) b;
    state = s;
  }

  unfoldable pub save : Beside → State → Outcome
  save b s = judged (save_rules b s) b s (saved (image_of s) b s)

  -- ---- restore: "restore 8"

  unfoldable pub restore_rules : List ℕ → Beside → State → List Rule
  restore_rules image b s = begins_with_lengths cfg s (counts_fit b.counts) ((8 if not (acceptable image)) ∷ [])

  -- document 02, W7: "A restore sets admitted to the entries present and the rest to 0"
  abbrev pub restored_to : State → Beside → Outcome
  restored_to s b = done (with_counts (present_counts (entries cfg s)) b) s

  -- "and makes that state"
  unfoldable pub restore : List ℕ → Beside → State → Outcome
  restore image b s = judged (restore_rules image b s) b s (restored_to (state_of image) b)
