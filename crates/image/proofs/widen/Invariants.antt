-- `widen`: at each turn the entries that are left, written behind what is written, make the whole.
use mathlib.Core.Path.{◌≡◌}
use Rattle.manual.specs.Memory.{entry_width}
use Rattle.writing.specs.Writing.{written, append}
use Rattle.image.specs.Widened.{widened_bytes}
use Rattle.image.proofs.WidenedLaws.{Turn}
use Rattle.image.proofs.widen.Given as goal

abbrev pub invariant-loop-entry : goal.invariant-loop-entry
invariant-loop-entry l =
    (l.entry-iterator.size ≡ entry_width l.frame_bytes)
    × Turn l.frame_bytes (append (widened_bytes l.frame_bytes l.used) (written 0 l.fn.memory)) l.fn.memory l.memory
    l.entry-iterator.rest.now l.at
