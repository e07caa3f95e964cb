-- The state that a call is lent, and that it leaves. Assumes nothing.
use Rattle.std.specs.Prelude.{◌≡◌}
use Rattle.manual.specs.declared.Lent.{Lent}
use Rattle.manual.specs.declared.LentMut.{LentMut}
use Rattle.manual.specs.State.{State, lent}

-- the state that a call reads
abbrev pub as_found : Lent → State
as_found s = lent s.records.now s.debounce.now s.memory.now s.board

-- the state that a call can change, before it or after
abbrev pub as_lent : LentMut → State
as_lent s = lent s.records.now s.debounce.now s.memory.now s.board

-- the blocks are the same ones: what a call leaves in them, the lender finds in its own
abbrev pub keeps_loans : LentMut → LentMut → Type 0
keeps_loans before after =
    (after.records.ghost_name ≡ before.records.ghost_name)
    × ((after.debounce.ghost_name ≡ before.debounce.ghost_name)
    × (after.memory.ghost_name ≡ before.memory.ghost_name))
