-- What the code does to the bytes of the memory block: bytes written over others, bytes taken out with the gap closed.
-- Assumes nothing.
use Rattle.std.specs.Prelude.{List, ◌++◌, ℕ, suc, ◌+◌, ◌-◌, min, take, drop, set, replicate}
use Rattle.std.proofs.lemmas.List.Edits.{sets}
use Rattle.manual.specs.Memory.{Entry, entry_of, renewed_payload, entry_bytes, entry_width}
use Rattle.manual.specs.Memory.{entry_count, bytes_in_use, entries_of}
use Rattle.memory.specs.Places.{at_place}

-- m without its w bytes from `at` on: the later ones move down, and w bytes 0 stand at the end
unfoldable pub closed : ℕ → ℕ → List ℕ → List ℕ
closed at w m = take at m ++ (drop (at + w) m ++ replicate w 0)

-- the block with the bytes of the entry at place p taken out
unfoldable pub gap_closed : ℕ → ℕ → List ℕ → List ℕ
gap_closed F p m = closed (bytes_in_use F p) (entry_width F) m

-- the block with an entry of event e written at place p
unfoldable pub entered : ℕ → ℕ → ℕ → ℕ → List ℕ → List ℕ → List ℕ
entered F p e count payload m = sets m (bytes_in_use F p) (entry_bytes (entry_of e count payload))

-- the entry at place p taken out
abbrev pub removed : ℕ → ℕ → List ℕ → List ℕ
removed F p m = set (gap_closed F p m) 0 (entry_count m - 1)

-- an entry of event e put at the end
abbrev pub added : ℕ → ℕ → ℕ → List ℕ → List ℕ → List ℕ
added F e count payload m = entered F (entry_count m) e count payload (set m 0 (entry_count m + 1))

-- the entry at place p taken out, and one of event e put at the end
abbrev pub replaced : ℕ → ℕ → ℕ → ℕ → List ℕ → List ℕ → List ℕ
replaced F p e count payload m = entered F (entry_count m - 1) e count payload (gap_closed F p m)

-- "count up by one, at most 255; frame replaced; the entry moves to the end": the entry x of event e stood at place p
abbrev pub renewed_by : ℕ → ℕ → ℕ → List ℕ → List ℕ → Entry → List ℕ
renewed_by F p e frame m x = replaced F p e (min 255 (suc x.count)) (renewed_payload x.payload frame) m

abbrev pub renewed_at : ℕ → ℕ → ℕ → List ℕ → List ℕ → List ℕ
renewed_at F p e frame m = renewed_by F p e frame m (at_place p (entries_of F m))
