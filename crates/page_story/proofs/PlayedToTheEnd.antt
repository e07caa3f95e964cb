-- A log is played to its end: after as many turns as it has bytes no further call may follow.
use mathlib.Core.Path.{◌≡◌, refl, subst}
use mathlib.Core.Bool.{Bool, true, false}
use mathlib.Core.List.{List}
use native.Mathlib.Omega.{arith}
use Prim.Native.Nat.{ℕ}
use lib.IntN.{ℤ}
use lib.ListN.{length}
use Rattle.manual.specs.Calls.{fresh_state}
use Rattle.replay_step.specs.Beginning.{ready, beginning}
use Rattle.replay_step.proofs.EachCallTakesAByte.{Ahead, BeginningAhead, beginning_ahead}
use Rattle.page_story.specs.Story.{played}
use Rattle.page_story.proofs.StoryLaws.{Reaches, reached}

module _ (longer : Bool) (log : List ℕ) (numbers : List ℤ) (at : ℕ) (e : beginning longer log ≡ ready numbers at) where
  ahead : Ahead 0 log at
  ahead = subst (BeginningAhead log) e (beginning_ahead longer log)

  far : Reaches numbers log at (length log) (played numbers log at)
  unfolding played
  far = reached numbers log (fresh_state numbers) at (length log) refl ahead.within

  pub played_to_the_end : (played numbers log at).more ≡ false
  played_to_the_end = go (played numbers log at).more refl
    where
      go : (b : Bool) → (played numbers log at).more ≡ b → (played numbers log at).more ≡ false
      go true m = absurd (let z : ⊥ = omega (arith, far.further m, far.within, ahead.behind) in z)
      go false m = m
