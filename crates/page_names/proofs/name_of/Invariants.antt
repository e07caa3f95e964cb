-- `name_of` meets its contract.
use mathlib.Core.Path.{◌≡◌}
use lib.ListN.{length, drop}
use Rattle.page_names.specs.Names.{lines_of, name_among, name_of}
use Rattle.page_names.proofs.name_of.Given as goal

abbrev pub invariant-loop-line : goal.invariant-loop-line
invariant-loop-line l = name_of l.code l.file ≡ name_among l.code (drop (length l.yielded) (lines_of l.file))
