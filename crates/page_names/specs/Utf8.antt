-- "a name in UTF-8": the Unicode standard, table 3-7, "Well-Formed UTF-8 Byte Sequences"; and no control byte, which is
-- one below 20h and 7Fh. Assumes nothing.
use Rattle.std.specs.Prelude.{Bool, ◌&&◌, cond, List, [], ◌∷◌, ℕ, ◌-◌, eqb, leb}
use Rattle.page_names.specs.declared.Awaited.{Awaited}

-- from low to high, both allowed
abbrev pub within : ℕ → ℕ → ℕ → Bool
within low high b = leb low b && leb b high

-- how many bytes of a character are still to come, and from where to where the next of them lies
abbrev pub awaits : ℕ → ℕ → ℕ → Awaited
awaits left low high = record { left = left; low = low; high = high }

-- between two characters; and behind a byte that no character has there, from which nothing leads back
abbrev pub whole : Awaited
whole = awaits 0 0 0

abbrev pub broken : Awaited
broken = awaits 4 1 0

-- the table's column "First Byte", with what its row has for the second byte: of three bytes, and of four
unfoldable pub after_long : ℕ → Awaited
after_long b =
    cond (eqb b 0xE0) (awaits 2 0xA0 0xBF)
    (cond (eqb b 0xED) (awaits 2 0x80 0x9F)
    (cond (within 0xE1 0xEF b) (awaits 2 0x80 0xBF)
    (cond (eqb b 0xF0) (awaits 3 0x90 0xBF)
    (cond (eqb b 0xF4) (awaits 3 0x80 0x8F)
    (cond (within 0xF1 0xF3 b) (awaits 3 0x80 0xBF) broken)))))

-- of one byte, and of two
unfoldable pub after_first : ℕ → Awaited
after_first b =
    cond (within 0x20 0x7E b) whole (cond (within 0xC2 0xDF b) (awaits 1 0x80 0xBF) (after_long b))

-- every later byte lies from 80h to BFh
unfoldable pub after : Awaited → ℕ → Awaited
after a b =
    cond (eqb a.left 0) (after_first b)
    (cond (within a.low a.high b) (awaits (a.left - 1) 0x80 0xBF) broken)

unfoldable pub after_all : Awaited → List ℕ → Awaited
after_all a [] = a
after_all a (b ∷ bytes) = after_all (after a b) bytes

-- a text that ends with a whole character
unfoldable pub is_text : List ℕ → Bool
is_text bytes = eqb (after_all whole bytes).left 0
