-- Restoring the bytes that save wrote gives the saved state, every block and the board, whatever state of fitting
-- lengths it is restored into; document 02's counts, which are no part of a state, tell the entries present.
use mathlib.Core.Path.{◌≡◌, refl, ap, ◌∙◌}
use mathlib.Core.Bool.{Bool, true, not, ◌&&◌}
use mathlib.Core.List.{List, [], ◌∷◌}
use Prim.Native.Nat.{ℕ}
use lib.ListN.{length}
use lib.Seq.{take_at}
use borrow.Author.Tests.{not-false}
use Rattle.manual.specs.Configuration.{Configuration, config_ok}
use Rattle.manual.specs.State.{State}
use Rattle.manual.specs.Answers.{Beside, first_that_applies, ◌if◌}
use Rattle.manual.specs.Counts.{counts_fit}
use Rattle.manual.specs.WellFormed.{lengths_fit, well_formed}
use Rattle.manual.specs.Image.{edition2, Still, image_of, state_of, acceptable_in, acceptable, save_rules, save}
use Rattle.manual.specs.Image.{restore_rules, restored_to, restore}
use Rattle.manual.specs.Sequences.{saved_image}
use Rattle.manual.proofs.AnswersLaws.{none_applies, three_passed, accepted, goes_through}
use Rattle.manual.proofs.ImageLaws.{state_of_own_image, own_image_acceptable}
use Rattle.manual.proofs.AcceptedImages.{state_2, as_edition_2}

three_pass : (a b c d : Bool) → a ≡ true → b ≡ true → c ≡ true → d ≡ true
    → first_that_applies ((2 if not a) ∷ (3 if not (b && c)) ∷ (8 if not d) ∷ []) ≡ 0
unfolding first_that_applies
three_pass a b c d p q r t = rw (p, q, r, t)

module _ (cfg : Configuration) where
  -- what a save that was accepted tells of the state
  pub saved_still : (b : Beside) (s : State) → length s.board.running ≡ 4 → (save cfg b s).answer ≡ 0 → Still cfg s
  unfolding save save_rules
  saved_still b s four z =
      let none = none_applies _ (accepted _ b s _ z).0 refl in
      record { formed = not-false (well_formed cfg s) (none 1); four = four; stopped = none 2 }

  -- and of the configuration
  saved_configured : (b : Beside) (s : State) → (save cfg b s).answer ≡ 0 → config_ok cfg ≡ true
  unfolding save save_rules
  saved_configured b s z = not-false (config_ok cfg) (none_applies _ (accepted _ b s _ z).0 refl 0)

  -- save wrote the image
  pub written_image : (b : Beside) (s : State) → (save cfg b s).answer ≡ 0 → saved_image (save cfg b s) ≡ image_of cfg s
  unfolding save
  written_image b s z = ap saved_image (accepted _ b s _ z).1 ∙ take_at (image_of cfg s) _ (length (image_of cfg s)) refl

  pub restore_after_save : (s s' : State) → length s.board.running ≡ 4 → lengths_fit cfg s' ≡ true → (b b' : Beside)
      → counts_fit b'.counts ≡ true → (save cfg b s).answer ≡ 0
      → restore cfg (saved_image (save cfg b s)) b' s' ≡ restored_to cfg s b'
  unfolding restore restore_rules
  restore_after_save s s' four fits b b' five z =
      let still = saved_still b s four z in
      let own : acceptable_in cfg (edition2 cfg) (image_of cfg s) ≡ true =
      own_image_acceptable cfg (edition2 cfg) s still in
      ap (λ (l : List ℕ). restore cfg l b' s') (written_image b s z)
      ∙ goes_through _ b' s' (restored_to cfg (state_of cfg (image_of cfg s)) b')
      (three_pass (config_ok cfg) (counts_fit b'.counts) (lengths_fit cfg s') (acceptable cfg (image_of cfg s))
      (saved_configured b s z) five fits (as_edition_2 cfg (image_of cfg s) own))
      ∙ ap (λ (t : State). restored_to cfg t b')
      (state_2 cfg (image_of cfg s) own ∙ state_of_own_image cfg (edition2 cfg) s still)

  -- an accepted restore of a saved image makes the saved state
  pub restored_is_saved : (s s' : State) → length s.board.running ≡ 4 → (b b' : Beside) → (save cfg b s).answer ≡ 0
      → (restore cfg (saved_image (save cfg b s)) b' s').answer ≡ 0
      → restore cfg (saved_image (save cfg b s)) b' s' ≡ restored_to cfg s b'
  unfolding restore restore_rules
  restored_is_saved s s' four b b' z r =
      let passed = three_passed (counts_fit b'.counts) (lengths_fit cfg s')
      (none_applies _ (accepted _ b' s' _ r).0 refl 1) in
      restore_after_save s s' four passed.1 b b' passed.0 z
