-- Document 02, W6: "The image gets edition 2; an edition 1 image is accepted too": the two editions as the code has
-- them, and what judging an image answers. Assumes nothing.
use Rattle.std.specs.Prelude.{◌≡◌, true, false, cond, List, ℕ, eqb, get_or, Result, Ok, Err}
use Rattle.manual.specs.declared.Refusal.{Refusal}
use Rattle.manual.specs.declared.Refusal.TheVariants.{BadImage}
use Rattle.manual.specs.Configuration.{Configuration}
use Rattle.manual.specs.Answers.{number_of}
use Rattle.manual.specs.Image as manual
use Rattle.manual.specs.Image.{edition1, edition2, acceptable}
use Rattle.image.specs.declared.Edition.{Edition}
use Rattle.image.specs.declared.Edition.TheVariants.{One, Two}

-- an edition's number
abbrev pub edition_number : Edition → ℕ
edition_number One = 1
edition_number Two = 2

-- its number, and the length of its entries' payloads
abbrev pub edition_of : Configuration → Edition → manual.Edition
edition_of cfg One = edition1 cfg
edition_of cfg Two = edition2 cfg

-- the edition that byte 1 tells
abbrev pub edition_told : ℕ → Result Edition Refusal
edition_told number = cond (eqb number 1) (Ok One) (cond (eqb number 2) (Ok Two) (Err BadImage))

-- an accepted image is of the edition that is answered
abbrev pub Judged : Configuration → List ℕ → Result Edition Refusal → Type 0
Judged cfg image (Ok e) = (acceptable cfg image ≡ true) × (get_or image 1 0 ≡ edition_number e)
Judged cfg image (Err r) = (acceptable cfg image ≡ false) × (r ≡ BadImage)

-- the number of such an answer: 0 where the call goes on
abbrev pub judged_number : Result Edition Refusal → ℕ
judged_number (Ok e) = 0
judged_number (Err r) = number_of r
