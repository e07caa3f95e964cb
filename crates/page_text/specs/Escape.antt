-- Names in a page: "Every byte of a name that HTML gives a meaning is escaped." Assumes nothing.
use Rattle.std.specs.Prelude.{◌≡◌, Bool, false, ◌||◌, cond, ℕ, eqb}
use mathlib.Core.List.{List, [], ◌∷◌, ◌++◌, flat_map}
use Rattle.page_text.specs.Text.{text}

-- ---- what is written

-- `<`, `>`, `&`, `"` and `'` are written as HTML's character references, every other byte as it is
unfoldable pub escaped_byte : ℕ → List ℕ
escaped_byte b =
    cond (eqb b 0x3C) (text "&lt;")
    (cond (eqb b 0x3E) (text "&gt;")
    (cond (eqb b 0x26) (text "&amp;")
    (cond (eqb b 0x22) (text "&quot;")
    (cond (eqb b 0x27) (text "&#39;") (b ∷ [])))))

unfoldable pub escaped : List ℕ → List ℕ
escaped name = flat_map escaped_byte name

-- ---- how it is read

-- a byte that HTML gives a meaning
abbrev pub has_meaning : ℕ → Bool
has_meaning b = eqb b 0x3C || eqb b 0x3E || eqb b 0x26 || eqb b 0x22 || eqb b 0x27

-- A text that stays in its place, and the name that a browser shows for it: it is made of bytes without a meaning, and
-- of the five references. No other text is.
pub data Shows : List ℕ → List ℕ → Type 0 where
  nothing : Shows [] []
  byte : {b : ℕ} {bytes name : List ℕ} → has_meaning b ≡ false → Shows bytes name → Shows (b ∷ bytes) (b ∷ name)
  less : {bytes name : List ℕ} → Shows bytes name → Shows (text "&lt;" ++ bytes) (0x3C ∷ name)
  greater : {bytes name : List ℕ} → Shows bytes name → Shows (text "&gt;" ++ bytes) (0x3E ∷ name)
  ampersand : {bytes name : List ℕ} → Shows bytes name → Shows (text "&amp;" ++ bytes) (0x26 ∷ name)
  quote : {bytes name : List ℕ} → Shows bytes name → Shows (text "&quot;" ++ bytes) (0x22 ∷ name)
  apostrophe : {bytes name : List ℕ} → Shows bytes name → Shows (text "&#39;" ++ bytes) (0x27 ∷ name)
