-- The statement of `take` allows one outcome only: one result, one receiver and one room.
use mathlib.Core.Path.{◌≡◌, sym, ap, ◌∙◌}
use mathlib.Core.List.{List}
use Prim.Native.Nat.{ℕ}
use Rattle.std.specs.Prelude.{Result}
use Rattle.transport.specs.declared.CanFrame.{CanFrame}
use Rattle.transport.specs.declared.Refused.{Refused}
use Rattle.transport.specs.declared.Receiver.{Receiver}
use Rattle.transport.specs.declared.TakeAnswer.{TakeAnswer}
use Rattle.transport.specs.Receiving.{Took, took, taken, take_frame}

pub one_take : (block separation : ℕ) (receiver : Receiver) (room : List ℕ) (f : CanFrame)
    (r r' : Result TakeAnswer Refused) (after after' : Receiver) (left left' : List ℕ)
    → took (taken r after) left ≡ take_frame block separation receiver room f
    → took (taken r' after') left' ≡ take_frame block separation receiver room f
    → (r ≡ r') × (after ≡ after') × (left ≡ left')
one_take block separation receiver room f r r' after after' left left' p q =
    let same = p ∙ sym q in (
      ap (λ (t : Took). t.taken.answer) same,
      ap (λ (t : Took). t.taken.receiver) same,
      ap (λ (t : Took). t.room) same,
    )
