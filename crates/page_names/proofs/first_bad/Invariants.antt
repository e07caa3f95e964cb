-- `first_bad` meets its contract.
use mathlib.Core.Path.{◌≡◌}
use Prim.Native.Nat.{◌+◌}
use lib.ListN.{length, drop}
use Rattle.page_names.specs.Names.{lines_of, bad_among, first_bad}
use Rattle.page_names.proofs.first_bad.Given as goal

abbrev pub invariant-loop-line : goal.invariant-loop-line
invariant-loop-line l =
    (l.number ≡ length l.yielded + 1)
    × (first_bad l.file ≡ bad_among l.number (drop (length l.yielded) (lines_of l.file)))
