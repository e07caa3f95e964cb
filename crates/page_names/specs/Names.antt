-- The names file: "lines of a trouble code in hexadecimal and a name in UTF-8". Assumes nothing.
use Rattle.std.specs.Prelude.{Bool, not, ◌&&◌, ◌||◌, cond, List, [], ◌∷◌, ℕ, zero, suc, ◌+◌, ◌-◌, ◌*◌, ◌%◌, Option, None, Some}
use Rattle.std.specs.Prelude.{eqb, leb, ltb, length, get_or, take, drop}
use Rattle.std.specs.List.{take_while}
use Rattle.history.specs.Words.{cut_at}
use Rattle.page_names.specs.Utf8.{within, is_text}

-- ---- bytes in front

-- 0 to 9, A to F, a to f
abbrev pub is_hex : ℕ → Bool
is_hex b = within 0x30 0x39 b || within 0x41 0x46 b || within 0x61 0x66 b

abbrev pub is_space : ℕ → Bool
is_space b = eqb b 0x20

-- how many bytes in front pass
abbrev pub leading : (ℕ → Bool) → List ℕ → ℕ
leading p bytes = length (take_while p bytes)

-- ---- a line: one to six digits, an h or none, one space or more, a name of 1 to 120 bytes

abbrev pub digits_in : List ℕ → ℕ
digits_in line = leading is_hex line

unfoldable pub code_end : List ℕ → ℕ
code_end line = cond (eqb (get_or line (digits_in line) 0) 0x68) (digits_in line + 1) (digits_in line)

unfoldable pub name_start : List ℕ → ℕ
name_start line = code_end line + leading is_space (drop (code_end line) line)

abbrev pub name_in : List ℕ → List ℕ
name_in line = drop (name_start line) line

abbrev pub code_fits : ℕ → Bool
code_fits digits = leb 1 digits && leb digits 6

abbrev pub name_fits : ℕ → Bool
name_fits size = leb 1 size && leb size 120

unfoldable pub is_good : List ℕ → Bool
is_good line =
    code_fits (digits_in line) && ltb (code_end line) (name_start line) && name_fits (length line - name_start line)
    && is_text (name_in line)

-- what a digit is worth, and what the first k digits are
unfoldable pub worth_of : ℕ → ℕ
worth_of b = cond (leb b 0x39) (b % 16) ((b + 9) % 16)

unfoldable pub worth : ℕ → List ℕ → ℕ
worth zero line = 0
worth (suc k) line = 16 * worth k line + worth_of (get_or line k 0)

abbrev pub code_in : List ℕ → ℕ
code_in line = worth (digits_in line) line

-- ---- the lines

abbrev pub is_newline : ℕ → Bool
is_newline b = eqb b 0x0A

unfoldable pub lines_of : List ℕ → List (List ℕ)
lines_of file = cut_at is_newline file

-- a carriage return at a line's end is passed over
abbrev pub ends_in_return : List ℕ → Bool
ends_in_return line = eqb (get_or line (length line - 1) 0) 0x0D

unfoldable pub kept_of : List ℕ → ℕ
kept_of line = cond (ends_in_return line) (length line - 1) (length line)

unfoldable pub kept : List ℕ → List ℕ
kept line = take (kept_of line) line

-- ---- the name of a code

unfoldable pub is_of : ℕ → List ℕ → Bool
is_of code line = is_good line && eqb (code_in line) code

-- that of the first good line with the code; none where there is no such line
unfoldable pub name_among : ℕ → List (List ℕ) → List ℕ
name_among code [] = []
name_among code (line ∷ lines) = cond (is_of code (kept line)) (name_in (kept line)) (name_among code lines)

unfoldable pub name_of : ℕ → List ℕ → List ℕ
name_of code file = name_among code (lines_of file)

-- ---- "A bad line of that file is a clear message with its number"

-- an empty line is passed over
unfoldable pub is_bad : List ℕ → Bool
is_bad line = not (eqb (length line) 0) && not (is_good line)

-- the number of the first bad line, where the first of these is line n
unfoldable pub bad_among : ℕ → List (List ℕ) → Option ℕ
bad_among n [] = None
bad_among n (line ∷ lines) = cond (is_bad (kept line)) (Some n) (bad_among (n + 1) lines)

unfoldable pub first_bad : List ℕ → Option ℕ
first_bad file = bad_among 1 (lines_of file)

-- ---- what the code asks

-- the program reads no longer file
abbrev pub most_names : ℕ
most_names = 65535
