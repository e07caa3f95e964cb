-- Document 02, W6: "an edition 1 image is accepted too, its one frame becoming both": the bytes in use that body 2 of
-- an image makes of memory. Assumes nothing.
use Rattle.std.specs.Prelude.{cond, List, ◌∷◌, ◌++◌, map, ℕ, eqb, take, drop}
use Rattle.manual.specs.Memory.{payload_of, entry_count, entries_of, entries_bytes}
use Rattle.manual.specs.Image.{with_both}

-- the bytes of an entry, behind its number and its count the frame and the frame again
abbrev pub both_frames : List ℕ → List ℕ
both_frames bytes = take 3 bytes ++ payload_of (drop 3 bytes)

-- the entry count and the entries, each of one frame of F bytes, with both frames
unfoldable pub widened_bytes : ℕ → List ℕ → List ℕ
widened_bytes F used = entry_count used ∷ entries_bytes (map with_both (entries_of F used))

-- of an image of edition 1 the entries with both frames, of one of edition 2 the entries as they are
unfoldable pub made_of : ℕ → ℕ → List ℕ → List ℕ
made_of number F used = cond (eqb number 1) (widened_bytes F used) used
