-- A call that goes through the events does its step for those that pass a test, turn by turn.
use mathlib.Core.Path.{◌≡◌, refl, sym, ap, subst, ◌∙◌}
use mathlib.Core.Bool.{Bool, true, cond}
use Prim.Native.Nat.{ℕ, ◌+◌, ◌<◌}
use native.Mathlib.Numerals.{add-one}
use Rattle.manual.specs.Words.{for_below}
use Rattle.manual.specs.Configuration.{Configuration, events, config_ok}
use Rattle.manual.specs.State.{State}
use Rattle.manual.specs.WellFormed.{well_formed}
use Rattle.manual.specs.OneEvent.{for_those}
use Rattle.manual.proofs.StaysWellFormed.{Keeps}
use Rattle.manual.proofs.EventLoops.{loop_ready}
use Rattle.one_event.specs.Ready.{Ready}
use Rattle.one_event.proofs.ReadyLaws.{ready_of}

module _ (p : ℕ → Bool) (one : ℕ → State → State) where
  -- done for event e, where it passes
  abbrev pub turn : ℕ → State → State
  turn e t = cond (p e) (one e t) t

  pub no_turn : (s : State) → s ≡ for_below 0 turn s
  unfolding for_below
  no_turn s = refl

  pub next_turn : (i : ℕ) (s : State) {t u : State} → t ≡ for_below i turn s → u ≡ turn i t → u ≡ for_below (i + 1) turn s
  unfolding for_below
  next_turn i s h q = rw add-one (q ∙ ap (turn i) h)

  pub last_turn : (cfg : Configuration) (i : ℕ) (s : State) {t : State} → i ≡ events cfg → t ≡ for_below i turn s
      → t ≡ for_those cfg p one s
  unfolding for_those
  last_turn cfg i s n h = h ∙ ap (λ (k : ℕ). for_below k turn s) n

  -- what a step may count on at its turn
  pub ready_at_turn : (cfg : Configuration) (s : State) → Keeps cfg p one s → config_ok cfg ≡ true
      → well_formed cfg s ≡ true
      → (i : ℕ) {t : State} → i < events cfg → t ≡ for_below i turn s → Ready cfg t i
  ready_at_turn cfg s keeps ok formed i h q =
      subst (λ (t : State). Ready cfg t i) (sym q) (ready_of cfg _ ok i h (loop_ready cfg keeps formed i h))
