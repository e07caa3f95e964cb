-- No call is left out of the sequences: from a state that calls lead to, any of the sixteen calls with any arguments
-- leads to such a state again, with the tokens that it gave; but for an accepted fresh, with which a sequence begins,
-- and an accepted restore, which leads on where the image was saved in the sequence.
use mathlib.Core.Path.{◌≡◌, refl, sym}
use mathlib.Core.Logic.{◌⊎◌, inl, inr}
use mathlib.Core.Bool.{Bool, true, false, ◌&&◌}
use mathlib.Core.List.{List, ◌++◌}
use Prim.Native.Nat.{ℕ}
use lib.Dec.{eqb}
use borrow.Author.Tests.{eqb-true, not-false}
use Rattle.history.proofs.WordsLaws.{and_left, and_right}
use Rattle.manual.specs.Configuration.{Configuration}
use Rattle.manual.specs.State.{State}
use Rattle.manual.specs.Answers.{Beside}
use Rattle.manual.specs.Calls.{fresh}
use Rattle.manual.specs.Image.{restore}
use Rattle.manual.specs.Sequences.{Call, Fresh, Report, Tick, Start, Stop, Clear, Read, Restore, Request}
use Rattle.manual.specs.Sequences.{begins_anew, outcome, tokens_at, carries_on, Reached, called}
use Rattle.manual.proofs.WordsLaws.{clash}
use Rattle.manual.proofs.SequencesLaws.{Histories}

module _ (cfg : Configuration) where
  -- an accepted fresh or restore
  pub data Anew (b : Beside) (s : State) : Call → Type 0 where
    fresh_again : (fresh cfg b s).answer ≡ 0 → Anew b s Fresh
    restore_of : (image : List ℕ) → (restore cfg image b s).answer ≡ 0 → Anew b s (Restore image)

  anew : (b : Beside) (s : State) (c : Call) → begins_anew c ≡ true → (outcome cfg c b s).answer ≡ 0 → Anew b s c
  anew b s Fresh t z = fresh_again z
  anew b s (Report k code frame present) t z = clash true refl (sym t)
  anew b s (Tick ms frame present) t z = clash true refl (sym t)
  anew b s (Start c) t z = clash true refl (sym t)
  anew b s (Stop c) t z = clash true refl (sym t)
  anew b s (Clear code) t z = clash true refl (sym t)
  anew b s (Read q) t z = clash true refl (sym t)
  anew b s (Restore image) t z = restore_of image z
  anew b s (Request bytes) t z = clash true refl (sym t)

  pub no_call_left_out : {s : State} {H : Histories} → Reached cfg s H → (c : Call) (b : Beside)
      → Reached cfg (outcome cfg c b s).state (λ e. tokens_at cfg c b s e ++ H e) ⊎ Anew b s c
  no_call_left_out {s} {H} r c b = go (carries_on cfg c b s) refl
    where
      is_done : Bool
      is_done = eqb (outcome cfg c b s).answer 0

      go : (t : Bool) → carries_on cfg c b s ≡ t
          → Reached cfg (outcome cfg c b s).state (λ e. tokens_at cfg c b s e ++ H e) ⊎ Anew b s c
      go true g = inl (called r c b g)
      go false g =
          let both = not-false (begins_anew c && is_done) g in
          inr (anew b s c (and_left (begins_anew c) is_done both) (eqb-true _ 0 (and_right (begins_anew c) is_done both)))
