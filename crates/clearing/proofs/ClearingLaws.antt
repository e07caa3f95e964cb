-- Laws of a clear: what each event of its loop may count on, and what the loop leaves.
use mathlib.Core.Path.{◌≡◌, ap, ◌∙◌}
use mathlib.Core.Bool.{true}
use Prim.Native.Nat.{ℕ, ◌<◌}
use Rattle.manual.specs.Words.{for_below}
use Rattle.manual.specs.Configuration.{Configuration, events, config_ok}
use Rattle.manual.specs.State.{State}
use Rattle.manual.specs.WellFormed.{well_formed}
use Rattle.manual.specs.OneEvent.{clears}
use Rattle.manual.specs.Calls.{covers, overflow_cleared, cleared}
use Rattle.manual.proofs.ConfigurationLaws.{config_tells}
use Rattle.manual.proofs.StaysWellFormed.{clears_keep}
use Rattle.one_event.specs.Ready.{EventFits}
use Rattle.one_event.proofs.TurnsLaws.{turn, last_turn, ready_at_turn}

module _ (cfg : Configuration) (code : ℕ) where
  -- after the events below i
  abbrev pub up_to : ℕ → State → State
  up_to i s = for_below i (turn (covers cfg code) (clears cfg)) s

  module _ (s : State) where
    -- "clearing all also clears overflow"
    pub after_all_lem : {i : ℕ} → i ≡ events cfg → {t t' : State} → t ≡ up_to i s → t' ≡ overflow_cleared cfg code t
        → t' ≡ cleared cfg code s
    unfolding cleared
    after_all_lem e p q = q ∙ ap (overflow_cleared cfg code) (last_turn (covers cfg code) (clears cfg) cfg _ s e p)

    pub fits_at : config_ok cfg ≡ true → well_formed cfg s ≡ true → (i : ℕ) → i < events cfg → {t : State} → t ≡ up_to i s
        → EventFits cfg t i
    fits_at ok formed i h p =
        (ready_at_turn (covers cfg code) (clears cfg) cfg s (clears_keep cfg (config_tells cfg ok) code s) ok formed i h
        p).event
