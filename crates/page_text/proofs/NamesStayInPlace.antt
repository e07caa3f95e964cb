-- A name cannot break out of its place: whatever its bytes are, the escaped name is made of bytes to which HTML gives
-- no meaning and of the five references, and a browser shows the name for it.
use mathlib.Core.Path.{◌≡◌, refl, sym, subst}
use mathlib.Core.Bool.{Bool, true, false, cond}
use mathlib.Core.List.{List, [], ◌∷◌, ◌++◌, flat_map}
use Prim.Native.Nat.{ℕ}
use lib.Dec.{eqb}
use borrow.Author.Tests.{eqb-true}
use Rattle.page_text.specs.Text.{text}
use Rattle.page_text.specs.Escape.{escaped_byte, escaped, Shows}

-- what is written for a byte that is none of the first references'
abbrev fifth : ℕ → List ℕ
fifth b = cond (eqb b 0x27) (text "&#39;") (b ∷ [])

abbrev fourth : ℕ → List ℕ
fourth b = cond (eqb b 0x22) (text "&quot;") (fifth b)

abbrev third : ℕ → List ℕ
third b = cond (eqb b 0x26) (text "&amp;") (fourth b)

abbrev second : ℕ → List ℕ
second b = cond (eqb b 0x3E) (text "&gt;") (third b)

module _ (b : ℕ) {bytes name : List ℕ} (s : Shows bytes name) where
  here : {k : ℕ} {part : List ℕ} → eqb b k ≡ true → Shows part (k ∷ name) → Shows part (b ∷ name)
  here {k} {part} e = subst (λ (x : ℕ). Shows part (x ∷ name)) (sym (eqb-true b k e))

  as_fifth : eqb b 0x3C ≡ false → eqb b 0x3E ≡ false → eqb b 0x26 ≡ false → eqb b 0x22 ≡ false → (w : Bool)
      → eqb b 0x27 ≡ w → Shows (cond w (text "&#39;") (b ∷ []) ++ bytes) (b ∷ name)
  as_fifth p q r t true e = here e (Shows.apostrophe s)
  as_fifth p q r t false e = Shows.byte {b = b} (rw (p, q, r, t, e) refl) s

  as_fourth : eqb b 0x3C ≡ false → eqb b 0x3E ≡ false → eqb b 0x26 ≡ false → (w : Bool) → eqb b 0x22 ≡ w
      → Shows (cond w (text "&quot;") (fifth b) ++ bytes) (b ∷ name)
  as_fourth p q r true e = here e (Shows.quote s)
  as_fourth p q r false e = as_fifth p q r e (eqb b 0x27) refl

  as_third : eqb b 0x3C ≡ false → eqb b 0x3E ≡ false → (w : Bool) → eqb b 0x26 ≡ w
      → Shows (cond w (text "&amp;") (fourth b) ++ bytes) (b ∷ name)
  as_third p q true e = here e (Shows.ampersand s)
  as_third p q false e = as_fourth p q e (eqb b 0x22) refl

  as_second : eqb b 0x3C ≡ false → (w : Bool) → eqb b 0x3E ≡ w
      → Shows (cond w (text "&gt;") (third b) ++ bytes) (b ∷ name)
  as_second p true e = here e (Shows.greater s)
  as_second p false e = as_third p e (eqb b 0x26) refl

  as_first : (w : Bool) → eqb b 0x3C ≡ w → Shows (cond w (text "&lt;") (second b) ++ bytes) (b ∷ name)
  as_first true e = here e (Shows.less s)
  as_first false e = as_second e (eqb b 0x3E) refl

  byte_stays : Shows (escaped_byte b ++ bytes) (b ∷ name)
  unfolding escaped_byte
  byte_stays = as_first (eqb b 0x3C) refl

pub name_stays_in_place : (name : List ℕ) → Shows (escaped name) name
unfolding escaped flat_map
name_stays_in_place [] = Shows.nothing
name_stays_in_place (b ∷ name) = byte_stays b (name_stays_in_place name)
