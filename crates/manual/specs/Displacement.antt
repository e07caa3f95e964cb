-- Document 01, "Memory", rules 1 to 4 said of splits: which entry stands where before and after a fresh failure. The
-- definitions of Memory.antt compute; this is the same as a relation, for a reader who wants to see who leaves. Assumes
-- nothing.
use Rattle.std.specs.Prelude.{◌≡◌, ◌≢◌, Bool, true, List, [], ◌∷◌, ◌++◌, ℕ, suc, ◌≤◌, ◌<◌, min, length}
use Rattle.manual.specs.declared.StoreAnswer.TheVariants.{Renewed, Added, NotStored}
use Rattle.manual.specs.Words.{All}
use Rattle.manual.specs.Memory.{Entry, event_of, entry_of, payload_of, renewed_payload, Kept, kept, displacing}

-- M places; each event's priority number; whether an event has bit 0 clear; a fresh failure of e with a frame; the
-- entries, the oldest first
module _ (M : ℕ) (priority : ℕ → ℕ) (quiet : ℕ → Bool) (e : ℕ) (frame : List ℕ) (xs : List Entry) where
  abbrev pub priority_of : Entry → ℕ
  priority_of x = priority (event_of x)

  -- "of equal priority number whose event has bit 0 clear"
  abbrev pub Rests : Entry → Type 0
  Rests x = (priority_of x ≡ priority e) × (quiet (event_of x) ≡ true)

  -- v is the victim, where these are the entries older than it
  pub data Victim (older : List Entry) (v : Entry) : Type 0 where
    -- "among entries whose priority number is greater than e's, the greatest, and the oldest among equals"
    greatest : priority e < priority_of v → All (λ x. priority_of x ≤ priority_of v) xs
        → All (λ x. priority_of x < priority_of v) older → Victim older v
    -- "If none: the oldest entry of equal priority number whose event has bit 0 clear."
    oldest : All (λ x. priority_of x ≤ priority e) xs → Rests v → All (λ x. ¬ Rests x) older → Victim older v

  -- rule 3 takes v out: e has no entry, there are not fewer than M, and v is the victim
  pub record TakenOut (v : Entry) : Type 0 where
    pub without_entry : All (λ x. event_of x ≢ e) xs
    pub full : M ≤ length xs
    pub older : List Entry
    pub newer : List Entry
    pub there : xs ≡ older ++ v ∷ newer
    pub is_victim : Victim older v

  -- what the rules leave: the older and the newer entries as they were, and e's at the end
  pub data Ruled : Kept → Type 0 where
    -- "1. e has an entry: count up by one, at most 255; frame replaced; the entry moves to the end (newest)."; document
    -- 02, W6: "A repeat replaces only the latest."
    renews : (older : List Entry) (x : Entry) (newer : List Entry) → xs ≡ older ++ x ∷ newer → event_of x ≡ e
        → Ruled
        (kept Renewed
        (older ++ newer ++ (entry_of e (min 255 (suc x.count)) (renewed_payload x.payload frame) ∷ [])))
    -- "2. Else, fewer than M entries: appended with count 1."
    adds : All (λ x. event_of x ≢ e) xs → length xs < M → Ruled (kept Added (xs ++ (entry_of e 1 (payload_of frame) ∷ [])))
    -- "3. Else the victim … is taken out, e appended with count 1."
    replaces : (v : Entry) (t : TakenOut v)
        → Ruled (kept (displacing v) (t.older ++ t.newer ++ (entry_of e 1 (payload_of frame) ∷ [])))
    -- "4. Else not stored; overflow is set."
    loses : All (λ x. event_of x ≢ e) xs → M ≤ length xs → All (λ x. priority_of x ≤ priority e) xs
        → All (λ x. ¬ Rests x) xs
        → Ruled (kept NotStored xs)
