-- The statement of `loop_back` allows one outcome only: one result, and one room.
use mathlib.Core.Path.{◌≡◌, sym, ap, ◌∙◌}
use mathlib.Core.List.{List}
use Prim.Native.Nat.{ℕ}
use Rattle.transport.specs.declared.Stage.{Stage}
use Rattle.transport.specs.Exchange.{Ended, ended_at, looped_back}

pub one_loop_back : (m room : List ℕ) (r r' : Stage) (left left' : List ℕ)
    → ended_at r left ≡ looped_back m room
    → ended_at r' left' ≡ looped_back m room
    → (r ≡ r') × (left ≡ left')
one_loop_back m room r r' left left' p q =
    let same = p ∙ sym q in (ap (λ (e : Ended). e.stage) same, ap (λ (e : Ended). e.room) same)
