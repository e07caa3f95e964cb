-- The statements of the four calls for a caller in C allow one outcome only: one result, and one room.
use mathlib.Core.Path.{◌≡◌, sym, ap, ◌∙◌}
use mathlib.Core.List.{List}
use Prim.Native.Nat.{ℕ}
use Rattle.can_panel.specs.declared.PanelCanFrame.{PanelCanFrame}
use Rattle.can_panel.specs.declared.PanelSender.{PanelSender}
use Rattle.can_panel.specs.declared.PanelReceiver.{PanelReceiver}
use Rattle.can_panel.specs.declared.PanelStarted.{PanelStarted}
use Rattle.can_panel.specs.declared.PanelFlowed.{PanelFlowed}
use Rattle.can_panel.specs.declared.PanelNext.{PanelNext}
use Rattle.can_panel.specs.declared.PanelTaken.{PanelTaken}
use Rattle.can_panel.specs.CanPanel.{TakeCrossing, with_room, start_crosses, flow_crosses, next_crosses, take_crosses}

pub one_start : (m : List ℕ) (r r' : PanelStarted) → r ≡ start_crosses m → r' ≡ start_crosses m → r ≡ r'
one_start m r r' p q = p ∙ sym q

pub one_flow : (s : PanelSender) (f : PanelCanFrame) (r r' : PanelFlowed)
    → r ≡ flow_crosses s f → r' ≡ flow_crosses s f → r ≡ r'
one_flow s f r r' p q = p ∙ sym q

pub one_next : (s : PanelSender) (m : List ℕ) (r r' : PanelNext)
    → r ≡ next_crosses s m → r' ≡ next_crosses s m → r ≡ r'
one_next s m r r' p q = p ∙ sym q

pub one_take : (given : PanelReceiver) (room : List ℕ) (block separation : ℕ) (f : PanelCanFrame) (r r' : PanelTaken)
    (left left' : List ℕ)
    → with_room r left ≡ take_crosses given room block separation f
    → with_room r' left' ≡ take_crosses given room block separation f
    → (r ≡ r') × (left ≡ left')
one_take given room block separation f r r' left left' p q =
    let same = p ∙ sym q in (ap (λ (t : TakeCrossing). t.taken) same, ap (λ (t : TakeCrossing). t.room) same)
