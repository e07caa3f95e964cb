use mathlib.Core.Path.{ap, ◌∙◌}
use mathlib.Core.List.{List, [], ◌∷◌, ◌++◌}
use Prim.Native.Nat.{ℕ, ◌+◌, ◌/◌, ◌%◌}
use lib.Seq.{sets}
use Rattle.manual.specs.Memory.{entry_of, entry_bytes}
use Rattle.writing.proofs.PartlyWritten.{sets_append}
use Rattle.memory.specs.Block.{entered}
use Rattle.memory.proofs.enter.Goals as goal

pub returns : goal.returns
unfolding entered
returns c =
    let a = c.args in
    let start_of_lem = c.start_of-start in
    let m = a.memory.now in
    let payload = a.first.now ++ a.latest.now in
    let e = a.event.0 in
    c.put_frames.ensures
    ∙ ap (λ (l : List ℕ). sets l (start_of_lem.result + 3) payload)
    c.put.ensures
    ∙ sets_append (e / 256 ∷ e % 256 ∷ a.count ∷ []) payload m start_of_lem.result
    ∙ ap (λ (k : ℕ). sets m k (entry_bytes (entry_of e a.count payload))) start_of_lem.ensures
