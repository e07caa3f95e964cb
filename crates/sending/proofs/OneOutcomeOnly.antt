-- The statements of `start`, `flow` and `next` allow one outcome only: one result, and one sender.
use mathlib.Core.Path.{◌≡◌, sym, ap, ◌∙◌}
use mathlib.Core.List.{List}
use Prim.Native.Nat.{ℕ}
use Rattle.std.specs.Prelude.{Option, Result}
use Rattle.transport.specs.declared.CanFrame.{CanFrame}
use Rattle.transport.specs.declared.Refused.{Refused}
use Rattle.transport.specs.declared.Sender.{Sender}
use Rattle.transport.specs.declared.FlowAnswer.{FlowAnswer}
use Rattle.transport.specs.Sending.{start, Flowed, flowed, flow, Next, offers, next_frame}

pub one_start : (m : List ℕ) (r r' : Result (CanFrame × Sender) Refused) → r ≡ start m → r' ≡ start m → r ≡ r'
one_start m r r' p q = p ∙ sym q

pub one_flow : (s : Sender) (f : CanFrame) (r r' : Result FlowAnswer Refused) (after after' : Sender)
    → flowed r after ≡ flow s f
    → flowed r' after' ≡ flow s f
    → (r ≡ r') × (after ≡ after')
one_flow s f r r' after after' p q =
    let same = p ∙ sym q in (ap (λ (x : Flowed). x.answer) same, ap (λ (x : Flowed). x.sender) same)

pub one_next : (s : Sender) (m : List ℕ) (r r' : Option CanFrame) (after after' : Sender)
    → offers r after ≡ next_frame s m
    → offers r' after' ≡ next_frame s m
    → (r ≡ r') × (after ≡ after')
one_next s m r r' after after' p q =
    let same = p ∙ sym q in (ap (λ (x : Next). x.frame) same, ap (λ (x : Next). x.sender) same)
