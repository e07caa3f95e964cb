-- Document 01, "Memory": the entries, and what a fresh failure does to them. Assumes nothing.
use Rattle.std.specs.Prelude.{Bool, true, false, not, ◌&&◌, cond, List, [], ◌∷◌, ◌++◌, ℕ, zero, suc, ◌+◌, ◌-◌, ◌*◌, ◌/◌, ◌%◌, min, length, get_or, take, drop, replicate, eqb, leb, ltb}
use Rattle.std.proofs.Math.Option.{Option, none, some}
use Rattle.history.specs.Words.{any_of, all_of}
use Rattle.manual.specs.declared.StoreAnswer.{StoreAnswer}
use Rattle.manual.specs.declared.StoreAnswer.TheVariants.{Untold, Renewed, Added, Displaced, NotStored}
use Rattle.manual.specs.Words.{first_of, or_else, those}
use Rattle.manual.specs.Configuration.{most_places, most_payload}

-- "event number (2 bytes, high first), occurrence count (1 to 255)"; document 02, W6: "An entry becomes event, count,
-- first frame, latest frame.": the payload is its two frames
pub record Entry : Type 0 where
  pub high : ℕ
  pub low : ℕ
  pub count : ℕ
  pub payload : List ℕ

abbrev pub event_of : Entry → ℕ
event_of x = x.high * 256 + x.low

abbrev pub entry_of : ℕ → ℕ → List ℕ → Entry
entry_of e count payload = record { high = e / 256; low = e % 256; count = count; payload = payload }

-- W6: "both the frame of the first failure and that of the latest": the two frames of a payload, each of F bytes
abbrev pub first_frame : ℕ → List ℕ → List ℕ
first_frame F payload = take F payload

abbrev pub latest_frame : ℕ → List ℕ → List ℕ
latest_frame F payload = drop F payload

-- the two frames of a new entry are both the lent one
unfoldable pub payload_of : List ℕ → List ℕ
payload_of frame = frame ++ frame

-- "A repeat replaces only the latest.": the frames of an entry that held the old ones
unfoldable pub renewed_payload : List ℕ → List ℕ → List ℕ
renewed_payload old frame = first_frame (length frame) old ++ frame

-- ---- the bytes of an entry, and the entry of some bytes: its layout, where F is the length of a payload

abbrev pub entry_width : ℕ → ℕ
entry_width F = 3 + F

abbrev pub entry_bytes : Entry → List ℕ
entry_bytes x = x.high ∷ x.low ∷ x.count ∷ x.payload

abbrev pub entry_at : ℕ → List ℕ → Entry
entry_at F m = record { high = get_or m 0 0; low = get_or m 1 0; count = get_or m 2 0; payload = take F (drop 3 m) }

-- ---- "Memory: 1 + M(3 + F) lent bytes: number of entries, then the entries with the oldest first", where F is the
-- length of a payload

abbrev pub memory_length : ℕ → ℕ → ℕ
memory_length M F = 1 + M * entry_width F

-- the length of the longest block
abbrev pub most_memory : ℕ
most_memory = memory_length most_places most_payload

abbrev pub entry_count : List ℕ → ℕ
entry_count m = get_or m 0 0

-- the bytes of the number of entries and of that many entries
abbrev pub bytes_in_use : ℕ → ℕ → ℕ
bytes_in_use F count = 1 + entry_width F * count

unfoldable pub entries_from : ℕ → ℕ → List ℕ → List Entry
entries_from F zero m = []
entries_from F (suc k) m = entry_at F m ∷ entries_from F k (drop (entry_width F) m)

-- the entries of a memory block
unfoldable pub entries_of : ℕ → List ℕ → List Entry
entries_of F m = entries_from F (entry_count m) (drop 1 m)

unfoldable pub entries_bytes : List Entry → List ℕ
entries_bytes [] = []
entries_bytes (x ∷ xs) = entry_bytes x ++ entries_bytes xs

-- the memory block of some entries: "the bytes after the last entry are 0"
unfoldable pub memory_of : ℕ → ℕ → List Entry → List ℕ
memory_of M F xs = length xs ∷ (entries_bytes xs ++ replicate (entry_width F * (M - length xs)) 0)

-- ---- an event's entry

abbrev pub is_of : ℕ → Entry → Bool
is_of e x = eqb (event_of x) e

abbrev pub entry_for : ℕ → List Entry → Option Entry
entry_for e xs = first_of (is_of e) xs

-- "Removal closes the gap and keeps the order."
unfoldable pub without : ℕ → List Entry → List Entry
without e xs = those (λ x. not (is_of e x)) xs

-- "no two equal"
unfoldable pub no_twice : List Entry → Bool
no_twice [] = true
no_twice (x ∷ xs) = not (any_of (is_of (event_of x)) xs) && no_twice xs

-- ---- "Fresh failure of e with the lent frame"

-- the entries after it, and by which rule
pub record Kept : Type 0 where
  pub entries : List Entry
  pub did : StoreAnswer

abbrev pub kept : StoreAnswer → List Entry → Kept
kept did xs = record { entries = xs; did = did }

-- this entry was taken out
abbrev pub displacing : Entry → StoreAnswer
displacing v = Displaced (record { 0 = event_of v })

-- "not stored"
abbrev pub is_lost : StoreAnswer → Bool
is_lost Untold = false
is_lost Renewed = false
is_lost Added = false
is_lost (Displaced e) = false
is_lost NotStored = true

-- M places; each event's priority number; whether an event has bit 0 clear
module _ (M : ℕ) (priority : ℕ → ℕ) (quiet : ℕ → Bool) (e : ℕ) (frame : List ℕ) where
  -- "among entries whose priority number is greater than e's, the greatest"
  abbrev pub outranked : List Entry → Entry → Bool
  outranked xs x =
      ltb (priority e) (priority (event_of x)) && all_of (λ y. leb (priority (event_of y)) (priority (event_of x))) xs

  -- "equal priority number whose event has bit 0 clear"
  abbrev pub resting : Entry → Bool
  resting x = eqb (priority (event_of x)) (priority e) && quiet (event_of x)

  -- "3. Else the victim: among entries whose priority number is greater than e's, the greatest, and the oldest among
  -- equals. If none: the oldest entry of equal priority number whose event has bit 0 clear."
  unfoldable pub victim : List Entry → Option Entry
  victim xs = or_else (first_of (outranked xs) xs) (first_of resting xs)

  abbrev pub appended : ℕ → List ℕ → List Entry → List Entry
  appended count payload xs = xs ++ (entry_of e count payload ∷ [])

  -- "The victim is taken out, e appended with count 1." "4. Else not stored; overflow is set."
  unfoldable pub pushed_out : Option Entry → List Entry → Kept
  pushed_out (some v) xs = kept (displacing v) (appended 1 (payload_of frame) (without (event_of v) xs))
  pushed_out none xs = kept NotStored xs

  -- "2. Else, fewer than M entries: appended with count 1."
  unfoldable pub admitted : List Entry → Kept
  admitted xs = cond (ltb (length xs) M) (kept Added (appended 1 (payload_of frame) xs)) (pushed_out (victim xs) xs)

  -- "1. e has an entry: count up by one, at most 255; frame replaced; the entry moves to the end (newest)."; W6: of its
  -- two frames the latest
  unfoldable pub renewed : Option Entry → List Entry → Kept
  renewed (some x) xs =
      kept Renewed (appended (min 255 (suc x.count)) (renewed_payload x.payload frame) (without e xs))
  renewed none xs = admitted xs

  unfoldable pub store : List Entry → Kept
  store xs = renewed (entry_for e xs) xs
