-- `tell` meets its contract.
use mathlib.Core.Path.{◌≡◌, refl, sym, ◌∙◌}
use mathlib.Core.Bool.{Bool, true, false, cond}
use mathlib.Core.List.{List}
use Prim.Native.Nat.{ℕ}
use lib.Dec.{eqb}
use Rattle.std.specs.Prelude.{Result, Ok, Err}
use Rattle.std.specs.Result.{result_eq}
use Rattle.transport.specs.declared.Refused.{Refused}
use Rattle.transport.specs.declared.Sender.{Sender}
use Rattle.transport.specs.declared.Receiver.{Receiver}
use Rattle.transport.specs.declared.FlowAnswer.{FlowAnswer}
use Rattle.transport.specs.declared.FlowAnswer.TheVariants.{Go, Wait, Aborted}
use Rattle.transport.specs.declared.Stage.TheVariants.{Failed}
use Rattle.transport.specs.Exchange.{joined, asked, told_by}
use Rattle.loopback.proofs.tell.Goals as goal

-- only the answer that lets the sender go on, with this separation time, leads to the next frame
module _ (separation : ℕ) (m : List ℕ) (s : Sender) (r : Receiver)
    (eq : FlowAnswer → FlowAnswer → Bool) (eq' : Refused → Refused → Bool)
    (go : (t : ℕ) → eq (Go t) (Go separation) ≡ eqb t separation)
    (wait : eq Wait (Go separation) ≡ false) (aborted : eq Aborted (Go separation) ≡ false) where
  told_if : (a : Result FlowAnswer Refused) (b : Bool) → b ≡ result_eq eq eq' a (Ok (Go separation))
      → told_by separation m a s r ≡ cond b (asked m s r) (joined s r Failed)
  unfolding told_by
  told_if (Ok (Go t)) b e = rw (e, go t) refl
  told_if (Ok Wait) b e = rw (e, wait) refl
  told_if (Ok Aborted) b e = rw (e, aborted) refl
  told_if (Err d) b e = rw e refl

pub returns-then-eq : goal.returns-then-eq
returns-then-eq c =
    let a = c.args in
    rw (← c.flow.ensures)
    (c.ask.ensures
    ∙ sym (told_if a.separation a.message.now c.flow.new.sender a.line.now.receiver _ _ (λ t. refl) refl refl
    c.flow.result true c.if-eq.ensures))

pub returns-else-eq : goal.returns-else-eq
returns-else-eq c =
    let a = c.args in
    rw (← c.flow.ensures)
    (sym (told_if a.separation a.message.now c.flow.new.sender a.line.now.receiver _ _ (λ t. refl) refl refl
    c.flow.result false c.if-eq.ensures))
