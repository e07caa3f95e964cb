-- A call that goes through the events one after the other, each part of which keeps a sound state sound, finds at each
-- event that event's record and D well formed, which cycles run as they were at its start, and the memory in order.
use mathlib.Core.Path.{◌≡◌}
use mathlib.Core.Bool.{Bool, true, cond}
use Prim.Native.Nat.{ℕ, ◌<◌}
use native.Mathlib.Omega.{arith}
use Rattle.manual.specs.Words.{for_below}
use Rattle.manual.specs.Configuration.{Configuration, events}
use Rattle.manual.specs.State.{State}
use Rattle.manual.specs.WellFormed.{well_formed}
use Rattle.manual.proofs.OneEventLaws.{view}
use Rattle.manual.proofs.MemoryStaysGood.{MemoryGood}
use Rattle.manual.proofs.SoundStates.{EventGood, Sound, sound}
use Rattle.manual.proofs.StaysWellFormed.{Keeps, below_going}

module _ (cfg : Configuration) where
  -- what a step on event e may count on
  pub record EventReady (s : State) (e : ℕ) : Type 0 where
    pub memory : MemoryGood cfg s
    pub event : EventGood cfg s.board e (view s e)

  sound_ready : (s : State) → Sound cfg s → (e : ℕ) → e < events cfg → EventReady s e
  sound_ready s o e h = record { memory = o.memory; event = o.events_good e h }

  pub ready_at_once : (s : State) → well_formed cfg s ≡ true → (e : ℕ) → e < events cfg → EventReady s e
  ready_at_once s w = sound_ready s (sound cfg s w)

  pub loop_ready : {p : ℕ → Bool} {one : ℕ → State → State} {s : State} → Keeps cfg p one s → well_formed cfg s ≡ true
      → (i : ℕ) → i < events cfg
      → EventReady (for_below i (λ e u. cond (p e) (one e u) u) s) i
  loop_ready {s = s} keeps w i h = sound_ready _ (below_going cfg keeps (sound cfg s w) i (omega arith)).sound i h
