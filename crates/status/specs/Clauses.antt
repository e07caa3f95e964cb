-- The nine clauses on an event's record, those on its four bytes apart from those that ask for a limit of its row.
-- Assumes nothing.
use Rattle.std.specs.Prelude.{Bool, ◌||◌, [], ◌∷◌}
use Rattle.history.specs.Words.{implies, holds}
use Rattle.history.specs.StatusByte.{confirmed_dtc, warning_indicator_requested, EventRecord, Limits}
use Rattle.history.specs.WellFormed.{untested_is_fresh, faulty_has_failed, failed_is_pending, pending_has_cycles}
use Rattle.history.specs.WellFormed.{healing_below, healing_only_warned, ageing_below, ageing_only_confirmed}

-- "bit 7 set means bit 3 set" stands here, "and indicator 1" below
unfoldable pub bytes_ok : EventRecord → Bool
bytes_ok r =
    holds
    (untested_is_fresh r.status
    ∷ faulty_has_failed r.status
    ∷ failed_is_pending r.status
    ∷ implies (r.status warning_indicator_requested) (r.status confirmed_dtc)
    ∷ pending_has_cycles r
    ∷ healing_only_warned r
    ∷ ageing_only_confirmed r
    ∷ [])

-- bit 3 or 7 is set: a limit has something to say
abbrev pub is_limited : EventRecord → Bool
is_limited r = r.status confirmed_dtc || r.status warning_indicator_requested

unfoldable pub limits_ok : Limits → EventRecord → Bool
limits_ok n r =
    holds
    (implies (r.status warning_indicator_requested) n.indicator ∷ healing_below n r ∷ ageing_below n r ∷ [])

-- of the others h and g are 0 by the clauses above, and H and A are at least 1
unfoldable pub limits_kept : Limits → EventRecord → Bool
limits_kept n r = implies (is_limited r) (limits_ok n r)
