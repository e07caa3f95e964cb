use mathlib.Core.Path.{ap, ◌∙◌}
use mathlib.Core.List.{List}
use Prim.Native.Nat.{ℕ, ◌+◌}
use lib.ListN.{length}
use lib.Seq.{sets}
use Rattle.writing.proofs.PartlyWritten.{sets_append}
use Rattle.memory.proofs.put_frames.Goals as goal

pub returns : goal.returns
returns c =
    let a = c.args in
    c.put-2.ensures
    ∙ ap (λ (l : List ℕ). sets l (a.at + length a.first.now) a.latest.now)
    c.put.ensures
    ∙ sets_append a.first.now a.latest.now a.memory.now a.at
