-- The definitions on examples: words and numbers of the input, and lines of the output.
use mathlib.Core.Path.{◌≡◌, refl}
use mathlib.Core.Bool.{Bool, true, false}
use mathlib.Core.List.{List, [], ◌∷◌, map, flat_map}
use Prim.Native.Nat.{ℕ}
use lib.IntN.{ℤ, pos, negsuc}
use Rattle.manual.specs.Words.{those, join_below}
use Rattle.manual.specs.State.{stored_at}
use Rattle.transcript.specs.declared.Word.{Word}
use Rattle.transcript.specs.declared.Word.TheVariants.{Number, Unreadable, End}
use Rattle.transcript.specs.Text.{words, is_separator, run, one_to_ten_digits, is_magnitude, worth}
use Rattle.transcript.specs.Text.{with_sign, is_number, value_of, read_word, next_read}
use Rattle.transcript.specs.Line.{decimal, spaced, status_bytes, line}

-- " 12  -7\n\t8"
abbrev text : List ℕ
text = 0x20 ∷ 0x31 ∷ 0x32 ∷ 0x20 ∷ 0x20 ∷ 0x2D ∷ 0x37 ∷ 0x0A ∷ 0x09 ∷ 0x38 ∷ []

abbrev number : ℤ → Bool → ℕ → Word
number value minus next = Number (record { value = value; minus = minus; next = record { at = next } })

-- "12", "-7" and "\t8": a tab separates nothing
pub three_words : words text ≡ (0x31 ∷ 0x32 ∷ []) ∷ (0x2D ∷ 0x37 ∷ []) ∷ (0x09 ∷ 0x38 ∷ []) ∷ []
unfolding words those is_separator
three_words = refl

-- read from the front, from inside 12, from behind 12, behind -7, at the end, past the end
pub text_read :
    map (λ at. next_read at text) (0 ∷ 2 ∷ 3 ∷ 7 ∷ 10 ∷ 99 ∷ [])
    ≡ number (pos 12) false 3 ∷ number (pos 2) false 3 ∷ number (negsuc 6) true 7 ∷ Unreadable ∷ End ∷ End ∷ []
unfolding words those is_separator run one_to_ten_digits is_magnitude worth with_sign is_number value_of read_word next_read
text_read = refl

-- "-0", "0000000001", "00000000001", "-2147483647", "2147483648", "-", "12x", "+1", "--1"
pub words_read :
    map (λ word. read_word word 9)
    ((0x2D ∷ 0x30 ∷ [])
    ∷ (0x30 ∷ 0x30 ∷ 0x30 ∷ 0x30 ∷ 0x30 ∷ 0x30 ∷ 0x30 ∷ 0x30 ∷ 0x30 ∷ 0x31 ∷ [])
    ∷ (0x30 ∷ 0x30 ∷ 0x30 ∷ 0x30 ∷ 0x30 ∷ 0x30 ∷ 0x30 ∷ 0x30 ∷ 0x30 ∷ 0x30 ∷ 0x31 ∷ [])
    ∷ (0x2D ∷ 0x32 ∷ 0x31 ∷ 0x34 ∷ 0x37 ∷ 0x34 ∷ 0x38 ∷ 0x33 ∷ 0x36 ∷ 0x34 ∷ 0x37 ∷ [])
    ∷ (0x32 ∷ 0x31 ∷ 0x34 ∷ 0x37 ∷ 0x34 ∷ 0x38 ∷ 0x33 ∷ 0x36 ∷ 0x34 ∷ 0x38 ∷ [])
    ∷ (0x2D ∷ [])
    ∷ (0x31 ∷ 0x32 ∷ 0x78 ∷ [])
    ∷ (0x2B ∷ 0x31 ∷ [])
    ∷ (0x2D ∷ 0x2D ∷ 0x31 ∷ [])
    ∷ [])
    ≡ number (pos 0) true 9 ∷ number (pos 1) false 9 ∷ Unreadable ∷ number (negsuc 2_147_483_646) true 9 ∷ Unreadable
    ∷ Unreadable ∷ Unreadable ∷ Unreadable ∷ Unreadable ∷ []
unfolding one_to_ten_digits is_magnitude worth with_sign is_number value_of read_word
words_read = refl

-- "5 80", the refused configuration's "2", and a line of two events: "0 47 255"
pub first_line : line 5 (status_bytes 1 (80 ∷ 0 ∷ 0 ∷ 0 ∷ [])) ≡ 0x35 ∷ 0x20 ∷ 0x38 ∷ 0x30 ∷ 0x0A ∷ []
unfolding decimal spaced flat_map status_bytes join_below stored_at line
first_line = refl

pub refused_line : line 2 (status_bytes 0 []) ≡ 0x32 ∷ 0x0A ∷ []
unfolding decimal spaced flat_map status_bytes join_below stored_at line
refused_line = refl

pub longer_line : line 0 (status_bytes 2 (47 ∷ 1 ∷ 0 ∷ 0 ∷ 255 ∷ 2 ∷ 3 ∷ 4 ∷ []))
    ≡ 0x30 ∷ 0x20 ∷ 0x34 ∷ 0x37 ∷ 0x20 ∷ 0x32 ∷ 0x35 ∷ 0x35 ∷ 0x0A ∷ []
unfolding decimal spaced flat_map status_bytes join_below stored_at line
longer_line = refl
