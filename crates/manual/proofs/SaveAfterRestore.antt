-- An accepted image restored and saved again: one of edition 2 gives the same bytes, one of edition 1 the image of the
-- state in which its one frame is both.
use mathlib.Core.Path.{◌≡◌, refl, sym, ap, subst, ◌∙◌}
use mathlib.Core.Bool.{Bool, true, false, not}
use mathlib.Core.List.{List, [], ◌∷◌}
use Prim.Native.Nat.{ℕ, ◌≤◌}
use lib.Dec.{ltb}
use lib.ListN.{length}
use borrow.Author.Tests.{not-false, le-ltb}
use Rattle.manual.specs.Configuration.{Configuration, config_ok}
use Rattle.manual.specs.State.{State}
use Rattle.manual.specs.Answers.{Beside, Outcome, first_that_applies, ◌if◌}
use Rattle.manual.specs.Counts.{counts_fit}
use Rattle.manual.specs.WellFormed.{lengths_fit, well_formed}
use Rattle.manual.specs.Image.{edition1, edition2, Still, image_of, state_in, state_of, widened, acceptable_in}
use Rattle.manual.specs.Image.{acceptable, any_runs, save_rules, saved, save, restore_rules, restored_to, restore}
use Rattle.manual.specs.Sequences.{saved_image}
use Rattle.manual.proofs.AnswersLaws.{none_applies, accepted, goes_through}
use Rattle.manual.proofs.ImageLaws.{accepted_image}
use Rattle.manual.proofs.AcceptedImages.{accepted_state, state_1, state_2}
use Rattle.manual.proofs.RestoreAfterSave.{restore_after_save}

four_pass : (a b c d : Bool) → a ≡ true → b ≡ true → c ≡ false → d ≡ false
    → first_that_applies ((2 if not a) ∷ (3 if not b) ∷ (5 if c) ∷ (7 if d) ∷ []) ≡ 0
unfolding first_that_applies
four_pass a b c d p q r t = rw (p, q, r, t)

module _ (cfg : Configuration) (image : List ℕ) (b : Beside) (s : State) (z : (restore cfg image b s).answer ≡ 0) where
  configured : config_ok cfg ≡ true
  unfolding restore restore_rules
  configured = not-false (config_ok cfg) (none_applies _ (accepted _ b s _ z).0 refl 0)

  pub restored_accepts : acceptable cfg image ≡ true
  unfolding restore restore_rules
  restored_accepts = not-false (acceptable cfg image) (none_applies _ (accepted _ b s _ z).0 refl 2)

  pub restored_state : (restore cfg image b s).state ≡ state_of cfg image
  unfolding restore
  restored_state = ap (λ (o : Outcome). o.state) (accepted _ b s _ z).1

  -- saved into any room that holds its image, the image is written there, with its length, and nothing else is changed
  pub saved_after_restore : (b' : Beside) → length (image_of cfg (restore cfg image b s).state) ≤ length b'.room
      → save cfg b' (restore cfg image b s).state
      ≡ saved cfg (image_of cfg (restore cfg image b s).state) b' (restore cfg image b s).state
  unfolding save save_rules
  saved_after_restore b' fits =
      goes_through _ b' t (saved cfg (image_of cfg t) b' t)
      (four_pass (config_ok cfg) (well_formed cfg t) (any_runs t.board)
      (ltb (length b'.room) (length (image_of cfg t))) configured still.formed still.stopped
      (le-ltb (length b'.room) (length (image_of cfg t)) fits))
    where
      t : State
      t = (restore cfg image b s).state

      still : Still cfg t
      still = subst (Still cfg) (sym restored_state) (accepted_state cfg image restored_accepts)

  -- "An accepted image restored and saved again gives the same bytes"; document 02, W6: "now reads for edition 2 images
  -- only"
  module _ (second : acceptable_in cfg (edition2 cfg) image ≡ true) where
    pub same_image : image_of cfg (restore cfg image b s).state ≡ image
    same_image =
        ap (image_of cfg) (restored_state ∙ state_2 cfg image second) ∙ accepted_image cfg (edition2 cfg) image second

    pub save_after_restore : (b' : Beside) → length image ≤ length b'.room
        → save cfg b' (restore cfg image b s).state ≡ saved cfg image b' (restore cfg image b s).state
    save_after_restore b' fits =
        saved_after_restore b' (subst (λ (l : List ℕ). length l ≤ length b'.room) (sym same_image) fits)
        ∙ ap (λ (l : List ℕ). saved cfg l b' (restore cfg image b s).state) same_image

  -- an image of edition 1 makes the state in which each entry's one frame is both
  pub widened_by_restore : acceptable_in cfg (edition1 cfg) image ≡ true
      → (restore cfg image b s).state ≡ widened cfg (state_in cfg (edition1 cfg) image)
  widened_by_restore first = restored_state ∙ state_1 cfg image first

  -- what was saved after a restore, restored into any blocks of fitting lengths, is the same state again; the counts
  -- tell the entries present
  pub saved_again_restored : (b' : Beside) → (save cfg b' (restore cfg image b s).state).answer ≡ 0
      → (b'' : Beside) (s'' : State) → lengths_fit cfg s'' ≡ true → counts_fit b''.counts ≡ true
      → restore cfg (saved_image (save cfg b' (restore cfg image b s).state)) b'' s''
      ≡ restored_to cfg (restore cfg image b s).state b''
  saved_again_restored b' z' b'' s'' fits five =
      restore_after_save cfg (restore cfg image b s).state s''
      (subst (Still cfg) (sym restored_state) (accepted_state cfg image restored_accepts)).four fits b' b'' five z'
