-- Restore accepts exactly the images of well-formed states with all cycles stopped, in edition 2 and, with one frame an
-- entry, in edition 1; one image is of one state; no strict prefix of an accepted image is accepted, and nothing
-- longer.
use mathlib.Core.Path.{◌≡◌, refl, sym, ap, subst, ◌∙◌}
use mathlib.Core.Logic.{◌↔◌, ◌⊎◌, inl, inr}
use mathlib.Core.Bool.{Bool, true, false, ◌||◌}
use mathlib.Core.List.{List, [], ◌∷◌, ◌++◌, append-nil}
use Prim.Native.Nat.{ℕ}
use native.Mathlib.Omega.{arith}
use lib.ListN.{get_or}
use Rattle.manual.specs.Configuration.{Configuration}
use Rattle.manual.specs.State.{State}
use Rattle.manual.specs.Image.{Edition, edition1, edition2, StillWith, Still, image_in, state_in}
use Rattle.manual.specs.Image.{widened, acceptable_in, acceptable, state_of}
use Rattle.manual.proofs.WordsLaws.{either}
use Rattle.manual.proofs.WidenedLaws.{widened_still}
use Rattle.manual.proofs.ImageLaws as ImageLaws

-- one of two tests
left_so : (a b : Bool) → a ≡ true → a || b ≡ true
left_so a b e = rw e

right_so : (a b : Bool) → b ≡ true → a || b ≡ true
right_so true b e = refl
right_so false b e = e

not_so : (a : Bool) → (a ≡ true → ⊥) → a ≡ false
not_so true f = absurd (f refl)
not_so false f = refl

module _ (cfg : Configuration) where
  -- ---- which edition

  -- of the two editions an image is accepted in one
  same_number : (ed ed' : Edition) (image rest : List ℕ) → acceptable_in cfg ed image ≡ true
      → acceptable_in cfg ed' (image ++ rest) ≡ true → ed.number ≡ ed'.number
  same_number ed ed' image rest a b =
      sym (ImageLaws.accepted_byte_1 cfg ed image rest a)
      ∙ ap (λ (l : List ℕ). get_or l 1 0) (sym (append-nil (image ++ rest)))
      ∙ ImageLaws.accepted_byte_1 cfg ed' (image ++ rest) [] b

  pub not_edition_2 : (image : List ℕ) → acceptable_in cfg (edition1 cfg) image ≡ true
      → acceptable_in cfg (edition2 cfg) image ≡ false
  not_edition_2 image a =
      not_so _
      (λ b. let n = same_number (edition1 cfg) (edition2 cfg) image [] a
      (ap (acceptable_in cfg (edition2 cfg)) (append-nil image) ∙ b) in omega (arith, n))

  -- ---- the state that an accepted image makes

  pub state_2 : (image : List ℕ) → acceptable_in cfg (edition2 cfg) image ≡ true
      → state_of cfg image ≡ state_in cfg (edition2 cfg) image
  unfolding state_of
  state_2 image a = rw a

  pub state_1 : (image : List ℕ) → acceptable_in cfg (edition1 cfg) image ≡ true
      → state_of cfg image ≡ widened cfg (state_in cfg (edition1 cfg) image)
  unfolding state_of
  state_1 image a = rw (not_edition_2 image a)

  pub as_edition_2 : (image : List ℕ) → acceptable_in cfg (edition2 cfg) image ≡ true → acceptable cfg image ≡ true
  unfolding acceptable
  as_edition_2 image a = left_so _ _ a

  pub as_edition_1 : (image : List ℕ) → acceptable_in cfg (edition1 cfg) image ≡ true → acceptable cfg image ≡ true
  unfolding acceptable
  as_edition_1 image a = right_so (acceptable_in cfg (edition2 cfg) image) _ a

  pub in_one : (image : List ℕ) → acceptable cfg image ≡ true
      → (acceptable_in cfg (edition2 cfg) image ≡ true) ⊎ (acceptable_in cfg (edition1 cfg) image ≡ true)
  unfolding acceptable
  in_one image a = either _ _ a

  -- it is well formed and still
  pub accepted_state : (image : List ℕ) → acceptable cfg image ≡ true → Still cfg (state_of cfg image)
  accepted_state image a = go (in_one image a)
    where
      go : (acceptable_in cfg (edition2 cfg) image ≡ true) ⊎ (acceptable_in cfg (edition1 cfg) image ≡ true)
          → Still cfg (state_of cfg image)
      go (inl e) = subst (Still cfg) (sym (state_2 image e)) (ImageLaws.accepted_state cfg (edition2 cfg) image e)
      go (inr e) =
          subst (Still cfg) (sym (state_1 image e))
          (widened_still cfg _ (ImageLaws.accepted_state cfg (edition1 cfg) image e))

  -- ---- the images that are accepted

  -- the image of a state, well formed with payloads of this edition's length and with all cycles stopped
  abbrev pub IsImage : Edition → List ℕ → Type 0
  IsImage ed image = (s : State) × StillWith cfg ed.payload s × (image_in cfg ed s ≡ image)

  -- "Restore accepts exactly the images of well-formed states with all cycles stopped", in each edition
  pub accepted_in : (ed : Edition) (image : List ℕ) → (acceptable_in cfg ed image ≡ true) ↔ IsImage ed image
  accepted_in ed image = (
    λ a. (state_in cfg ed image, ImageLaws.accepted_state cfg ed image a, ImageLaws.accepted_image cfg ed image a),
    every_one,
  )
    where
      every_one : IsImage ed image → acceptable_in cfg ed image ≡ true
      every_one (s, still, e) =
          subst (λ (l : List ℕ). acceptable_in cfg ed l ≡ true) e (ImageLaws.own_image_acceptable cfg ed s still)

  -- W6: "an edition 1 image is accepted too"
  pub accepted_exactly : (image : List ℕ)
      → (acceptable cfg image ≡ true) ↔ (IsImage (edition2 cfg) image ⊎ IsImage (edition1 cfg) image)
  accepted_exactly image = (λ a. there (in_one image a), back)
    where
      there : (acceptable_in cfg (edition2 cfg) image ≡ true) ⊎ (acceptable_in cfg (edition1 cfg) image ≡ true)
          → IsImage (edition2 cfg) image ⊎ IsImage (edition1 cfg) image
      there (inl e) = inl ((accepted_in (edition2 cfg) image).0 e)
      there (inr e) = inr ((accepted_in (edition1 cfg) image).0 e)

      back : IsImage (edition2 cfg) image ⊎ IsImage (edition1 cfg) image → acceptable cfg image ≡ true
      back (inl m) = as_edition_2 image ((accepted_in (edition2 cfg) image).1 m)
      back (inr m) = as_edition_1 image ((accepted_in (edition1 cfg) image).1 m)

  -- two states of one image, of either edition, are one
  pub one_state : (ed : Edition) (s s' : State) → StillWith cfg ed.payload s → StillWith cfg ed.payload s'
      → image_in cfg ed s ≡ image_in cfg ed s' → s ≡ s'
  one_state ed s s' still still' e =
      sym (ImageLaws.state_of_own_image cfg ed s still) ∙ ap (state_in cfg ed) e
      ∙ ImageLaws.state_of_own_image cfg ed s' still'

  -- no byte may follow an accepted image
  longer_refused : (image : List ℕ) (x : ℕ) (xs : List ℕ) → acceptable cfg image ≡ true
      → acceptable cfg (image ++ x ∷ xs) ≡ true → ⊥
  longer_refused image x xs a b = go (in_one image a) (in_one (image ++ x ∷ xs) b)
    where
      go : (acceptable_in cfg (edition2 cfg) image ≡ true) ⊎ (acceptable_in cfg (edition1 cfg) image ≡ true)
          →
          (acceptable_in cfg (edition2 cfg) (image ++ x ∷ xs) ≡ true)
          ⊎ (acceptable_in cfg (edition1 cfg) (image ++ x ∷ xs) ≡ true)
          → ⊥
      go (inl p) (inl q) = ImageLaws.longer_refused cfg (edition2 cfg) image x xs p q
      go (inl p) (inr q) =
          let n = same_number (edition2 cfg) (edition1 cfg) image (x ∷ xs) p q in let z : ⊥ = omega (arith, n) in z
      go (inr p) (inl q) =
          let n = same_number (edition1 cfg) (edition2 cfg) image (x ∷ xs) p q in let z : ⊥ = omega (arith, n) in z
      go (inr p) (inr q) = ImageLaws.longer_refused cfg (edition1 cfg) image x xs p q

  pub no_longer : (image : List ℕ) (x : ℕ) (xs : List ℕ) → acceptable cfg image ≡ true
      → acceptable cfg (image ++ x ∷ xs) ≡ false
  no_longer image x xs a = not_so (acceptable cfg (image ++ x ∷ xs)) (longer_refused image x xs a)

  pub no_strict_prefix : (prefix : List ℕ) (x : ℕ) (xs : List ℕ) → acceptable cfg (prefix ++ x ∷ xs) ≡ true
      → acceptable cfg prefix ≡ false
  no_strict_prefix prefix x xs b = not_so (acceptable cfg prefix) (λ a. longer_refused prefix x xs a b)
