-- `turn` meets its contract.
use mathlib.Core.Path.{◌≡◌, refl}
use mathlib.Core.List.{List}
use Prim.Native.Nat.{ℕ}
use Rattle.transport.specs.declared.CanFrame.{CanFrame}
use Rattle.transport.specs.declared.Sender.{Sender}
use Rattle.transport.specs.declared.Receiver.{Receiver}
use Rattle.transport.specs.declared.Stage.{Stage}
use Rattle.transport.specs.declared.Stage.TheVariants.{Coming, Arrived, Failed}
use Rattle.transport.specs.Exchange.{exchange, waited, answered_by, turn}
use Rattle.loopback.proofs.turn.Goals as goal

-- where no frame is on the line, a turn changes nothing
stays : (block separation : ℕ) (m : List ℕ) (s : Sender) (r : Receiver) (stage : Stage) (room : List ℕ)
    → ((f : CanFrame) → stage ≡ Coming f → ⊥)
    → exchange s r stage room ≡ turn block separation 0 m (exchange s r stage room)
unfolding turn
stays block separation m s r (Coming f) room none = absurd (none f refl)
stays block separation m s r (Arrived size) room none = refl
stays block separation m s r Failed room none = refl

pub returns-in_default : goal.returns-in_default
returns-in_default c =
    let a = c.args in
    let l = a.line.now in
    stays a.flow.block a.flow.separation a.message.now l.sender l.receiver l.stage a.room.now c.in_default.not-Coming

pub returns-in-Ok-Going : goal.returns-in-Ok-Going
unfolding turn answered_by
returns-in-Ok-Going c =
    rw (c.in-Coming.is, ← c.take.ensures, c.in-Ok-Going.is, c.in-Ok-Going.field-0-is, c.ask.ensures) refl

pub returns-in-Ok-Control : goal.returns-in-Ok-Control
unfolding turn answered_by waited
returns-in-Ok-Control c =
    rw (c.in-Coming.is, ← c.take.ensures, c.in-Ok-Control.is, c.in-Ok-Control.field-0-is, c.tell.ensures) refl

pub returns-in-Ok-Complete : goal.returns-in-Ok-Complete
unfolding turn answered_by
returns-in-Ok-Complete c =
    rw (c.in-Coming.is, ← c.take.ensures, c.in-Ok-Complete.is, c.in-Ok-Complete.field-0-is) refl

pub returns-in-Err : goal.returns-in-Err
unfolding turn answered_by
returns-in-Err c = rw (c.in-Coming.is, ← c.take.ensures, c.in-Err.is) refl
