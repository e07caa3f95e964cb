-- The definitions on examples: good and bad lines, the names of codes, the number of a bad line.
use mathlib.Core.Path.{◌≡◌, refl}
use mathlib.Core.Bool.{true, false}
use mathlib.Core.List.{List, [], ◌∷◌, map}
use Prim.Native.Nat.{ℕ}
use Rattle.std.proofs.Common.{Some}
use Rattle.page_names.specs.Utf8.{after_long, after_first, after, after_all, is_text}
use Rattle.page_names.specs.Names.{code_end, name_start, is_good, worth_of, worth, lines_of, kept_of}
use Rattle.page_names.specs.Names.{kept, is_of, name_among, name_of, is_bad, bad_among, first_bad}

-- the digits 0, 9, A, F, a, f
pub digits_are_worth : map worth_of (0x30 ∷ 0x39 ∷ 0x41 ∷ 0x46 ∷ 0x61 ∷ 0x66 ∷ []) ≡ 0 ∷ 9 ∷ 10 ∷ 15 ∷ 10 ∷ 15 ∷ []
unfolding worth_of
digits_are_worth = refl

-- "ü" of two bytes, "€" of three, "😀" of four; "ü" cut short, "A" written in two bytes, a surrogate, a byte FF, a tab
pub texts : map is_text
    ((0xC3 ∷ 0xBC ∷ []) ∷ (0xE2 ∷ 0x82 ∷ 0xAC ∷ []) ∷ (0xF0 ∷ 0x9F ∷ 0x98 ∷ 0x80 ∷ []) ∷ (0xC3 ∷ []) ∷ (0xC1 ∷ 0x81 ∷ [])
    ∷ (0xED ∷ 0xA0 ∷ 0x80 ∷ []) ∷ (0xFF ∷ []) ∷ (0x09 ∷ []) ∷ [])
    ≡ true ∷ true ∷ true ∷ false ∷ false ∷ false ∷ false ∷ false ∷ []
unfolding after_long after_first after after_all is_text
texts = refl

-- "A1 x", "000A11h  x y" with a carriage return, an empty line, "A1x", "A1 y"
abbrev file : List ℕ
file =
    0x41 ∷ 0x31 ∷ 0x20 ∷ 0x78 ∷ 0x0A ∷ 0x30 ∷ 0x30 ∷ 0x30 ∷ 0x41 ∷ 0x31 ∷ 0x31 ∷ 0x68 ∷ 0x20 ∷ 0x20 ∷ 0x78 ∷ 0x20 ∷ 0x79
    ∷ 0x0D ∷ 0x0A ∷ 0x0A ∷ 0x41 ∷ 0x31 ∷ 0x78 ∷ 0x0A ∷ 0x41 ∷ 0x31 ∷ 0x20 ∷ 0x79 ∷ []

pub names : map (λ code. name_of code file) (0xA1 ∷ 0xA11 ∷ 0xA2 ∷ [])
    ≡ (0x78 ∷ []) ∷ (0x78 ∷ 0x20 ∷ 0x79 ∷ []) ∷ [] ∷ []
unfolding name_of name_among is_of is_good worth worth_of lines_of kept kept_of code_end name_start
    after_long after_first after after_all is_text
names = refl

pub bad_line_4 : first_bad file ≡ Some 4
unfolding first_bad bad_among is_bad is_good lines_of kept kept_of code_end name_start
    after_long after_first after after_all is_text
bad_line_4 = refl
