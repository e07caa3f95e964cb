-- `put_statuses`: at each turn the status bytes of the events below e are written.
use mathlib.Core.Path.{◌≡◌}
use mathlib.Core.List.{flat_map}
use Prim.Native.Nat.{◌≤◌}
use lib.ListN.{length}
use Rattle.writing.specs.Writing.{written, append}
use Rattle.transcript.specs.Line.{spaced, status_bytes}
use Rattle.transcript.proofs.put_statuses.Given as goal

abbrev pub invariant-loop-e : goal.invariant-loop-e
invariant-loop-e l =
    (l.e ≤ l.events) × (written l.next l.buffer ≡ append (flat_map spaced (status_bytes l.e l.records)) (written l.at l.initial.buffer)) ×
    (length l.buffer ≡ length l.initial.buffer)
