-- Document 01, "A state is well formed when …, and for each event: …": what it asks of the event's record, a line for
-- each clause. Assumes nothing.
use Rattle.std.specs.Prelude.{Bool, not, ◌&&◌, ◌||◌, [], ◌∷◌, eqb, leb, ltb}
use Rattle.history.specs.Words.{implies, same, holds}
use Rattle.history.specs.StatusByte.{test_failed, test_failed_this_operation_cycle, pending_dtc, confirmed_dtc}
use Rattle.history.specs.StatusByte.{test_not_completed_since_last_clear, test_failed_since_last_clear}
use Rattle.history.specs.StatusByte.{test_not_completed_this_operation_cycle, warning_indicator_requested, Status}
use Rattle.history.specs.StatusByte.{byte_of, EventRecord, Limits}

-- "bit 4 set means status is exactly 50h"
abbrev pub untested_is_fresh : Status → Bool
untested_is_fresh s = implies (s test_not_completed_since_last_clear) (eqb (byte_of s) 0x50)

-- "bit 0, 2 or 3 set means bit 5 set"
abbrev pub faulty_has_failed : Status → Bool
faulty_has_failed s = implies (s test_failed || s pending_dtc || s confirmed_dtc) (s test_failed_since_last_clear)

-- "bit 1 set means bit 2 set and bit 6 clear"
abbrev pub failed_is_pending : Status → Bool
failed_is_pending s =
    implies (s test_failed_this_operation_cycle) (s pending_dtc && not (s test_not_completed_this_operation_cycle))

-- "bit 7 set means bit 3 set and indicator 1"
abbrev pub warning_is_confirmed : Limits → Status → Bool
warning_is_confirmed n s = implies (s warning_indicator_requested) (s confirmed_dtc && n.indicator)

-- "K ≥ 1 exactly when bit 2 is set"
abbrev pub pending_has_cycles : EventRecord → Bool
pending_has_cycles r = same (leb 1 r.K) (r.status pending_dtc)

-- "h < H, and h = 0 when bit 7 is clear"
abbrev pub healing_below : Limits → EventRecord → Bool
healing_below n r = ltb r.h n.H

abbrev pub healing_only_warned : EventRecord → Bool
healing_only_warned r = implies (not (r.status warning_indicator_requested)) (eqb r.h 0)

-- "g < A, and g = 0 when bit 3 is clear"
abbrev pub ageing_below : Limits → EventRecord → Bool
ageing_below n r = ltb r.g n.A

abbrev pub ageing_only_confirmed : EventRecord → Bool
ageing_only_confirmed r = implies (not (r.status confirmed_dtc)) (eqb r.g 0)

unfoldable pub well_formed_record : Limits → EventRecord → Bool
well_formed_record n r =
    holds
    (untested_is_fresh r.status
    ∷ faulty_has_failed r.status
    ∷ failed_is_pending r.status
    ∷ warning_is_confirmed n r.status
    ∷ pending_has_cycles r
    ∷ healing_below n r
    ∷ healing_only_warned r
    ∷ ageing_below n r
    ∷ ageing_only_confirmed r
    ∷ [])
