-- Document 01, "Replay program", its input: "decimal numbers (optional minus, 1 to 9 digits) between spaces or
-- newlines"; document 02, W5: it "reads numbers up to 2,147,483,647, so up to 10 digits". Assumes nothing.
use Rattle.std.specs.Prelude.{Bool, true, ◌&&◌, ◌||◌, cond, List, [], ◌∷◌, ℕ, zero, suc, ◌+◌, ◌-◌, ◌*◌, eqb, leb, ℤ, pos, neg_ℤ, length, get_or, drop}
use Rattle.history.specs.Words.{same, all_of, cut_at}
use Rattle.manual.specs.Words.{those}
use Rattle.transcript.specs.declared.Word.{Word}
use Rattle.transcript.specs.declared.Word.TheVariants.{Number, Unreadable, End}

-- ---- words

-- "between spaces or newlines": these two bytes separate, and no other
abbrev pub space : ℕ
space = 0x20

abbrev pub newline : ℕ
newline = 0x0A

unfoldable pub is_separator : ℕ → Bool
is_separator b = eqb b space || eqb b newline

-- how many bytes in front are separators, or are none
unfoldable pub run : Bool → List ℕ → ℕ
run separators [] = zero
run separators (b ∷ text) = cond (same separators (is_separator b)) (suc (run separators text)) zero

-- a word is everything between separators: the parts into which they cut the text, the empty ones left out
abbrev pub not_empty : List ℕ → Bool
not_empty part = leb 1 (length part)

unfoldable pub words : List ℕ → List (List ℕ)
words text = those not_empty (cut_at is_separator text)

-- ---- numbers

-- "1 to 9 digits", with W5 "up to 10": zeros in front count
abbrev pub is_digit : ℕ → Bool
is_digit b = leb 0x30 b && leb b 0x39

unfoldable pub one_to_ten_digits : List ℕ → Bool
one_to_ten_digits digits = leb 1 (length digits) && leb (length digits) 10 && all_of is_digit digits

-- "decimal": what digits are worth that follow others worth n
unfoldable pub worth : ℕ → List ℕ → ℕ
worth n [] = n
worth n (b ∷ digits) = worth (10 * n + (b - 0x30)) digits

-- "numbers up to 2,147,483,647, so up to 10 digits"
abbrev pub largest : ℕ
largest = 2147483647

unfoldable pub is_magnitude : List ℕ → Bool
is_magnitude digits = one_to_ten_digits digits && leb (worth 0 digits) largest

-- "optional minus"
abbrev pub minus_sign : ℕ
minus_sign = 0x2D

abbrev pub has_minus : List ℕ → Bool
has_minus word = eqb (get_or word 0 0) minus_sign

abbrev pub digits_of : List ℕ → List ℕ
digits_of word = cond (has_minus word) (drop 1 word) word

unfoldable pub with_sign : Bool → ℕ → ℤ
with_sign minus n = cond minus (neg_ℤ (pos n)) (pos n)

-- "decimal numbers (optional minus, …)": which words are numbers, and their values
unfoldable pub is_number : List ℕ → Bool
is_number word = is_magnitude (digits_of word)

unfoldable pub value_of : List ℕ → ℤ
value_of word = with_sign (has_minus word) (worth 0 (digits_of word))

-- ---- reading

-- what a word reads as; `end` is the place behind it
unfoldable pub read_word : List ℕ → ℕ → Word
read_word word end =
    cond (is_number word) (Number (record { value = value_of word; minus = has_minus word; next = record { at = end } }))
    Unreadable

-- the first of these words, which begins at `start`
abbrev pub first_read : ℕ → List (List ℕ) → Word
first_read start [] = End
first_read start (word ∷ later) = read_word word (start + length word)

-- the first word of the text from `at` on
unfoldable pub next_read : ℕ → List ℕ → Word
next_read at text = first_read (at + run true (drop at text)) (words (drop at text))
